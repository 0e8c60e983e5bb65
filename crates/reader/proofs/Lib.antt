mod Cutting
