-- The station's chain of three hops: frame and credits joined, and that chain and the ring. Assumes nothing.
use Rattle.server.specs.Meaning.{Meaning}
use Rattle.server.specs.Machine.{Machine}
use Rattle.frame.specs.States.{State as Framed, frame_machine}
use Rattle.credits.specs.States.{State as Credited, credit_machine}
use Rattle.ring.specs.States.{State as Turning, ring_machine, opened_from}
use Rattle.join.specs.Joint.{Joint, means_of, joint}
use Rattle.join.specs.Joint.{begun as joined}
use Rattle.hops.specs.Hops.{State}

-- what is known of the station: the states of the three schedulers with the starts kept at each join
abbrev pub Early : Type 0
Early = Joint Framed Credited

abbrev pub Whole : Type 0
Whole = Joint Early Turning

-- what frame and credits mean together, and what all three mean
abbrev pub early_means : Early → Meaning
early_means = means_of (λ f. f.clients) (λ c. c.clients)

abbrev pub station_means : Whole → Meaning
station_means = means_of early_means (λ r. r.clients)

-- a slot and a submission of the station
abbrev pub station_machine : Machine Whole
station_machine = joint early_means (λ r. r.clients) (joint (λ f. f.clients) (λ c. c.clients) frame_machine credit_machine) ring_machine

-- the station opened from its bookings
abbrev pub opened : State → Whole
opened s = joined early_means (λ r. r.clients) (joined (λ f. f.clients) (λ c. c.clients) s.frame s.credits) (opened_from s.ring)
