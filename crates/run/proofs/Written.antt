-- One call of a run: its line, if it has one, is written behind what was there, as far as there is room.
use Rattle.std.proofs.Common.{◌≡◌, ℕ, ◌<◌, ◌≤◌, Bool, true, false, cond, leb, ltb, List, [], ◌∷◌, ◌++◌, length, take, Ok, Err, Option, Some, None, sym, refl, ap, ◌∙◌, arith}
use Rattle.std.proofs.lemmas.List.{append-nil, take_all, take-append-le, length-take-le, length-append}
use Rattle.std.proofs.lemmas.Bool.{le-ltb, lt-ltb, leb-true, leb-false}
use Rattle.server.specs.declared.server.Server.{Ghosts}
use Rattle.server.specs.Meaning.{Meaning}
use Rattle.server.specs.Laws.{Lawful}
use Rattle.server.specs.Calls.{entered, at, granted, submitted}
use Rattle.server.specs.declared.block.Served.TheVariants.{Nothing, Unit as OneUnit, Departed}
use Rattle.book.specs.declared.calls.Call.{Call}
use Rattle.book.specs.declared.calls.Event.{Event}
use Rattle.book.specs.declared.calls.Event.TheVariants.{Submit, Slot, Ask}
use Rattle.book.specs.Runs.{call_of, Takes, happens, leads}
use Rattle.lines.specs.Tables.{pushed}
use Rattle.logs.specs.declared.line.Line.{Line}
use Rattle.run.specs.Logs.{after, line_of, list_of, lines_from}
use Rattle.run.specs.Runs.{Ran}

pub submitted_now : (m : Meaning) (c label len : ℕ) → (submitted m c label len).now ≡ m.now
submitted_now m c label len =
    elim (granted m c len) as (λ t. (cond t (record { count = m.count; now = m.now; client = at c (entered m.now label len) m.client }) m).now ≡ m.now) [
      | true ↦ refl
      | false ↦ refl
    ]

-- the slot after an event is the server's
pub after_takes : (m : Meaning) (e : Event) (m' : Meaning) → Takes m e m' → after m.now e ≡ m'.now
after_takes m (Submit o r) m' t = sym (ap (λ (v : Meaning). v.now) t.1 ∙ submitted_now m o.client o.label o.length)
after_takes m (Slot (Ok Nothing)) m' t = sym (ap (λ (v : Meaning). v.now) t.1)
after_takes m (Slot (Ok (OneUnit c))) m' t = sym (ap (λ (v : Meaning). v.now) t.1.leaves)
after_takes m (Slot (Ok (Departed d))) m' t = sym (ap (λ (v : Meaning). v.now) t.1.leaves)
after_takes m (Slot (Err e)) m' t = sym (ap (λ (v : Meaning). v.now) t.2)
after_takes m (Ask q a) m' t = sym (ap (λ (v : Meaning). v.now) t.1)

pub pushed_take : {T : Type 0} (most : ℕ) (all : List T) (item : T) → pushed most (take most all) item ≡ take most (all ++ (item ∷ []))
pushed_take most all item = by (leb most (length all)) refl
  where
    by : (t : Bool) → leb most (length all) ≡ t → pushed most (take most all) item ≡ take most (all ++ (item ∷ []))
    by true h =
        let full : most ≤ length all = leb-true most (length all) h in
        let last : ltb (length (take most all)) most ≡ false = le-ltb (length (take most all)) most (omega (arith, length-take-le most all full)) in
        ap (λ t. cond t (take most all ++ (item ∷ [])) (take most all)) last ∙ sym (take-append-le most all (item ∷ []) full)
    by false h =
        let room : length all < most = leb-false most (length all) h in
        let whole : take most all ≡ all = take_all most all (omega arith) in
        let first : ltb (length (take most all)) most ≡ true = lt-ltb (length (take most all)) most (omega (arith, ap (λ v. length v) whole)) in
        ap (λ t. cond t (take most all ++ (item ∷ [])) (take most all)) first
        ∙ ap (λ v. v ++ (item ∷ [])) whole
        ∙ sym (take_all most (all ++ (item ∷ [])) (omega (arith, length-append all (item ∷ []))))

module _ {S : Type 0} (a : Ghosts S) (lawful : (z : S) → Lawful (a.means (a.state z))) (x y : S) (call : Call) (event : Event) (of : call_of event ≡ call)
    (takes : Takes (a.means (a.state x)) event (a.means (a.state y)))
    (exactly : a.named → (event ≡ happens a.means a.machine (a.state x) call) × (a.state y ≡ leads a.means a.machine (a.state x) call))
    (now : ℕ) (told : now ≡ (a.means (a.state y)).now) where
  lines_of : (line : Option Line) → line ≡ line_of now event → lines_from (a.means (a.state x)).now (event ∷ []) ≡ list_of line
  lines_of line e =
      append-nil (list_of (line_of (after (a.means (a.state x)).now event) event))
      ∙ ap (λ t. list_of (line_of t event)) (after_takes (a.means (a.state x)) event (a.means (a.state y)) takes ∙ sym told)
      ∙ ap list_of (sym e)

  ran : (old new : List Line) → ((all : List Line) → old ≡ take 1208 all → new ≡ take 1208 (all ++ lines_from (a.means (a.state x)).now (event ∷ []))) → Ran a x (call ∷ []) y old new
  ran old new lines = record {
    events = event ∷ [];
    of = ap (λ c. c ∷ []) of;
    run = (lawful x, (a.means (a.state y), takes, (lawful y, refl)));
    exactly = λ n. (ap (λ e. e ∷ []) (exactly n).0, (exactly n).1);
    lines = lines;
  }

  pub ran_some : (line : Line) → Some line ≡ line_of now event → (old new : List Line) → new ≡ pushed 1208 old line → Ran a x (call ∷ []) y old new
  ran_some line e old new p = ran old new (λ all h.
      p ∙ ap (λ v. pushed 1208 v line) h ∙ pushed_take 1208 all line ∙ ap (λ v. take 1208 (all ++ v)) (sym (lines_of (Some line) e)))

  pub ran_none : None ≡ line_of now event → (old : List Line) → Ran a x (call ∷ []) y old old
  ran_none e old = ran old old (λ all h. h ∙ ap (λ v. take 1208 v) (sym (ap (λ v. all ++ v) (lines_of None e) ∙ append-nil all)))
