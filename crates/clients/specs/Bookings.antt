-- The numbers of a booking's refusals. Assumes nothing.
use Rattle.std.specs.Prelude.{ℕ}
use Rattle.clients.specs.declared.booking.BookingRefusal.{BookingRefusal}
use Rattle.clients.specs.declared.booking.BookingRefusal.TheVariants.{Reserved, Rate, Range, Share, Over}

-- the number by which each cause is known
abbrev pub number_of : BookingRefusal → ℕ
number_of Reserved = 5
number_of Rate = 6
number_of Range = 7
number_of Share = 8
number_of Over = 9
