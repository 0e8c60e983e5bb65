-- A chain keeps the laws of a server, and a slot of it is a slot.
use Rattle.std.specs.Prelude.{◌≡◌, ℕ, ◌+◌, ◌<◌, List}
use Rattle.std.proofs.Common.{sym, ap, subst, ◌∙◌, arith}
use Rattle.std.proofs.Math.Path.{fun_ext}
use Rattle.server.specs.declared.block.Served.{Served}
use Rattle.server.specs.Meaning.{Client, Meaning}
use Rattle.server.specs.Calls.{SlotAnswer, Went, Slotted}
use Rattle.server.specs.Laws.{ClientLaws, Lawful}
use Rattle.join.specs.Starts.{told, staying, noted}
use Rattle.join.specs.Link.{chained, Stands, handed}
use Rattle.join.specs.Steps.{joined_laws}
use Rattle.join.specs.Leaving.{Left, left}
use Rattle.join.specs.Passing.{Passed, passed}

module _ (count t : ℕ) (ss : ℕ → List ℕ) (m n : Meaning) (S : Stands count t ss m n) where
  pub chain_lawful : Lawful m → Lawful n → Lawful (chained count t ss m n)
  chain_lawful a b = record {
    eight = S.eight;
    counted = S.counted;
    each = λ k h.
        let some : 0 < count = omega arith in
        joined_laws t (m.client k) (n.client k) (ss k) (S.links k h)
        (subst (λ (u : ℕ). ClientLaws u (m.client k)) (S.times some).0 (a.each k (omega (arith, (S.counts some).0))))
        (subst (λ (u : ℕ). ClientLaws u (n.client k)) (S.times some).1 (b.each k (omega (arith, (S.counts some).1))));
  }

  module _ (some : 0 < count) (early : t < 4294967295) (lawful : Lawful m) (r r' : SlotAnswer) (m' n' n'' : Meaning) (second : Slotted n r n') (first : Slotted m r' m') (e : n'' ≡ handed r' n') where
    abbrev L : Left count t ss (staying r ss) m n n' (told r ss)
    L = left count t ss m n S some r n' early second

    P : Passed count (staying r ss) (noted r' (staying r ss)) m m' n' n''
    P = subst (λ (z : Meaning). Passed count (staying r ss) (noted r' (staying r ss)) m m' n' z) (sym e)
        (passed count t (staying r ss) m n' S.eight (S.counts some).0 (L.same ∙ (S.counts some).1) (S.times some).0 (L.ticks ∙ ap (λ (u : ℕ). u + 1) (S.times some).1) L.links lawful r' m' early first)

    pub slot_went : Went (chained count t ss m n) (told r ss) (chained count (t + 1) (noted r' (staying r ss)) m' n'')
    slot_went =
        subst (Went (chained count t ss m n) (told r ss)) (sym (ap (λ (f : ℕ → Client). record { count = count; now = t + 1; client = f }) (fun_ext P.same))) L.went

    pub slot_stands : Stands count (t + 1) (noted r' (staying r ss)) m' n''
    slot_stands = record {
      eight = S.eight;
      counted = omega arith;
      counts = λ h. (P.first ∙ (S.counts some).0, P.second ∙ L.same ∙ (S.counts some).1);
      times = λ h. (omega (arith, P.ticks, (S.times some).0), omega (arith, P.stays, L.ticks, (S.times some).1));
      links = P.links;
    }

    -- the same, as the calls tell it
    pub slot_all : (out : Served) (ss' ss'' : ℕ → List ℕ) → out ≡ told r ss → ss' ≡ staying r ss → ss'' ≡ noted r' ss'
        → Went (chained count t ss m n) out (chained count (t + 1) ss'' m' n'') × Stands count (t + 1) ss'' m' n''
    slot_all out ss' ss'' eo e' e'' =
        let G : Served → (ℕ → List ℕ) → Type 0 = λ o z. Went (chained count t ss m n) o (chained count (t + 1) z m' n'') × Stands count (t + 1) z m' n'' in
        subst (λ (o : Served). G o ss'') (sym eo) (subst (G (told r ss)) (sym (e'' ∙ ap (noted r') e')) (slot_went, slot_stands))
