-- A packet's text has room for its full stop and its count, and is what they leave behind the identifier.
use Rattle.std.proofs.Common.{◌≡◌, ℕ, ◌/◌, ◌%◌, ◌≤◌, true, cond, List, [], ◌∷◌, ◌++◌, length, Some, None, decimal, sym, ap, ◌∙◌, append_assoc, arith, length-append}
use Rattle.labels.specs.Packets.{packet_length}
use Rattle.labels.specs.Labels.{packet_text, packet_writes}
use Rattle.std.proofs.lemmas.Bool.{le-leb}
use Rattle.tables.specs.Tables.{fits, extended}

extends : (was more : List ℕ) → fits 10 was more ≡ true → extended 10 was more ≡ was ++ more
extends was more e = ap (λ t. cond t (was ++ more) was) e

module _ (code : ℕ) (small : code ≤ 33554431) (apid : List ℕ) (is-apid : apid ≡ decimal (code / 16384)) where
  pub stop_fits : fits 10 apid (46 ∷ []) ≡ true
  stop_fits = le-leb _ 10 (omega (arith, ap length is-apid, (packet_length code small).0))

  module _ (front : List ℕ) (is_front : front ≡ extended 10 apid (46 ∷ [])) (count : List ℕ) (is-count : count ≡ decimal (code % 16384)) where
    front_is : front ≡ apid ++ 46 ∷ []
    front_is = is_front ∙ extends apid (46 ∷ []) stop_fits

    pub count_fits : fits 10 front count ≡ true
    count_fits =
        le-leb _ 10
        (omega
        (arith, ap length is-apid, ap length front_is, length-append apid (46 ∷ []), ap length is-count, (packet_length code small).0, (packet_length code small).1))

    pub packet_written : (text : List ℕ) → text ≡ extended 10 front count → Some text ≡ packet_writes code
    packet_written text is-text =
        ap Some
        (is-text ∙ extends front count count_fits ∙ ap (λ x. x ++ count) front_is ∙ append_assoc apid (46 ∷ []) count
        ∙ ap (λ x. x ++ 46 ∷ count) is-apid ∙ ap (λ x. decimal (code / 16384) ++ 46 ∷ x) is-count)
        ∙ sym (ap (λ t. cond t (Some (packet_text code)) None) (le-leb code 33554431 small))
