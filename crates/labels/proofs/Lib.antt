mod PacketReading
mod PacketWriting
