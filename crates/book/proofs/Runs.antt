-- Runs, one call longer, and as far as the answers go.
use Rattle.std.proofs.Common.{◌≡◌, ℕ, ◌+◌, List, [], ◌∷◌, ◌++◌, drop, sym, refl, ap, ◌∙◌, subst}
use Rattle.std.proofs.lemmas.List.{drop-drop}
use Rattle.server.specs.Meaning.{Meaning}
use Rattle.server.specs.Laws.{Lawful}
use Rattle.server.specs.Machine.{Machine}
use Rattle.book.specs.declared.calls.Event.{Event}
use Rattle.book.specs.declared.calls.Call.{Call}
use Rattle.book.specs.Runs.{Takes, Run, happens, leads, history, ending}

-- what two lists share behind i, they share behind i + 1
pub drop_past : (i : ℕ) (xs ys : List Event) → drop i xs ≡ drop i ys → drop (i + 1) xs ≡ drop (i + 1) ys
drop_past i xs ys e = sym (drop-drop 1 i xs) ∙ ap (drop 1) e ∙ drop-drop 1 i ys

pub run_more : (es : List Event) (m m' m'' : Meaning) (e : Event) → Run m es m' → Takes m' e m'' → Lawful m'' → Run m (es ++ (e ∷ [])) m''
run_more [] m m' m'' e r t l = (r.0, (m'', subst (λ (v : Meaning). Takes v e m'') r.1 t, (l, refl)))
run_more (x ∷ es) m m' m'' e r t l = (r.0, (r.1.0, r.1.1, run_more es r.1.0 m' m'' e r.1.2 t l))

-- ## A named server, one call longer

module _ {S : Type 0} (means : S → Meaning) (M : Machine S) where
  pub history_more : (s : S) (cs : List Call) (c : Call) → history means M s (cs ++ (c ∷ [])) ≡ history means M s cs ++ (happens means M (ending means M s cs) c ∷ [])
  history_more s [] c = refl
  history_more s (x ∷ cs) c = ap (λ (es : List Event). happens means M s x ∷ es) (history_more (leads means M s x) cs c)

  pub ending_more : (s : S) (cs : List Call) (c : Call) → ending means M s (cs ++ (c ∷ [])) ≡ leads means M (ending means M s cs) c
  ending_more s [] c = refl
  ending_more s (x ∷ cs) c = ending_more (leads means M s x) cs c

  -- one more call of the server, and one more event
  pub exactly_more : (s s' s'' : S) (cs cs' : List Call) (es es' : List Event) (c : Call) (e : Event) → cs' ≡ cs ++ (c ∷ []) → es' ≡ es ++ (e ∷ [])
      → (es ≡ history means M s cs) × (s' ≡ ending means M s cs) → (e ≡ happens means M s' c) × (s'' ≡ leads means M s' c)
      → (es' ≡ history means M s cs') × (s'' ≡ ending means M s cs')
  exactly_more s s' s'' cs cs' es es' c e ec ee before now = (
    ee ∙ ap (λ (l : List Event). l ++ (e ∷ [])) before.0 ∙ ap (λ (v : Event). history means M s cs ++ (v ∷ [])) (now.0 ∙ ap (λ (v : S). happens means M v c) before.1)
        ∙ sym (history_more s cs c) ∙ ap (history means M s) (sym ec),
    now.1 ∙ ap (λ (v : S). leads means M v c) before.1 ∙ sym (ending_more s cs c) ∙ ap (ending means M s) (sym ec),
  )
