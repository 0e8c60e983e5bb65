-- A chain of two named servers is their joint machine.
use Rattle.std.proofs.Common.{◌≡◌, ℕ, ◌+◌, ◌<◌, Bool, true, false, cond, eqb, List, Ok, Err, sym, ap, ◌∙◌, arith, ne_eqb}
use Rattle.server.specs.declared.block.Served.{Served}
use Rattle.server.specs.declared.block.Served.TheVariants.{Nothing}
use Rattle.server.specs.declared.refusal.Refusal.TheVariants.{Ended}
use Rattle.server.specs.Meaning.{Meaning}
use Rattle.server.specs.Calls.{SlotAnswer, granted}
use Rattle.server.specs.Machine.{Machine}
use Rattle.join.specs.Starts.{told, staying, noted}
use Rattle.join.specs.Joint.{Joint, means_of, handed_on, moved, counted, joint}

module _ {A B : Type 0} (f : A → Meaning) (g : B → Meaning) (M : Machine A) (N : Machine B) (x : Joint A B) where
  module _ (early : x.now < 4294967295) (some : 0 < x.count) where
    not_ended : eqb x.now 4294967295 ≡ false
    not_ended = ne_eqb x.now 4294967295 (λ e. omega (arith, e, early))

    not-empty : eqb x.count 0 ≡ false
    not-empty = ne_eqb x.count 0 (λ e. omega (arith, e, some))

    pub exact_says : (out : Served) (r : SlotAnswer) → out ≡ told r x.starts → r ≡ N.says x.second → ◌≡◌ {A = SlotAnswer} (Ok out) ((joint f g M N).says x)
    exact_says out r eo er =
        let ok : Served → SlotAnswer = λ v. Ok v in
        let no : SlotAnswer = Err Ended in
        let T = told (N.says x.second) x.starts in
        ap ok (eo ∙ ap (λ (v : SlotAnswer). told v x.starts) er)
        ∙ ap (λ (d : Bool). cond {A = SlotAnswer} d (ok Nothing) (ok T)) (sym not-empty)
        ∙ ap (λ (d : Bool). cond {A = SlotAnswer} d no (cond {A = SlotAnswer} (eqb x.count 0) (ok Nothing) (ok T))) (sym not_ended)

    pub exact_next : (a : A) (b b' : B) (ss ss' : ℕ → List ℕ) (r r' : SlotAnswer) → r ≡ N.says x.second → b ≡ N.next x.second → ss ≡ staying r x.starts
        → r' ≡ M.says x.first → a ≡ M.next x.first → ss' ≡ noted r' ss → b' ≡ handed_on N r' b
        → ◌≡◌ {A = Joint A B} (record { first = a; second = b'; starts = ss'; count = x.count; now = x.now + 1 }) ((joint f g M N).next x)
    exact_next a b b' ss ss' r r' er eb es er' ea es' eb' =
        let e : ◌≡◌ {A = Joint A B} (record { first = a; second = b'; starts = ss'; count = x.count; now = x.now + 1 }) (moved f g M N x) = cc in
        e ∙ ap (λ (d : Bool). cond {A = Joint A B} d (counted f g M N x) (moved f g M N x)) (sym not-empty)
        ∙ ap (λ (d : Bool). cond {A = Joint A B} d x (cond {A = Joint A B} (eqb x.count 0) (counted f g M N x) (moved f g M N x))) (sym not_ended)

  pub exact_enter : (a : A) (c label len : ℕ) → granted (means_of f g x) c len ≡ true → a ≡ M.enter x.first c label len
      → ◌≡◌ {A = Joint A B} (record { first = a; second = x.second; starts = x.starts; count = x.count; now = x.now }) ((joint f g M N).enter x c label len)
  exact_enter a c label len yes' e =
      let after : A → Joint A B = λ v. record { first = v; second = x.second; starts = x.starts; count = x.count; now = x.now } in
      ap after e ∙ sym (ap (λ (d : Bool). cond {A = Joint A B} d (after (M.enter x.first c label len)) x) yes')
