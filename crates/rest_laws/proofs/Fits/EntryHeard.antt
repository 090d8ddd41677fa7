-- What a call was answered, answer by answer: where each answer is told as it may, all that its process has taken stands so.
use Rattle.std.proofs.Common.{◌≡◌, ℕ, Bool, true, cond, List, [], ◌∷◌, ◌++◌, None, refl, sym, ◌∙◌, ap, subst, ◌⊎◌, inl, inr}
use Rattle.locus_ids.specs.declared.config.Config.{Config}
use Rattle.locus_ids.specs.declared.ids.CallId.{CallId}
use Rattle.trace_book.specs.Same.{same_call}
use Rattle.trace_book.specs.declared.call.Call.{Call}
use Rattle.trace_book.specs.declared.record.Record.{Record}
use Rattle.trace_book.specs.declared.record.Record.TheVariants as says
use Rattle.call_rules.specs.declared.answer.Answer.{Answer}
use Rattle.call_rules.specs.declared.want.Want.{Want}
use Rattle.role_steps.specs.Views.{Told, Shown, Takes, LooksAgain}
use Rattle.the_run.specs.Worlds.{Line}
use Rattle.tree_laws.specs.Calls.{Waits, heard, log, script}
use Rattle.tree_laws.specs.Following.{IsFollowed, MayTell}
use Rattle.tree_laws.specs.Printed.{entries, onto_entries}
use Rattle.tree_laws.specs.Serials.{asked_now}
use Rattle.tree_laws.proofs.Asking.{Same, StepOf, StepRecord, Turns, not_longer, same_told}
use Rattle.tree_laws.proofs.Awaiting.{named_before, turn_clear}
use Rattle.tree_laws.proofs.Counting.{asked_same}
use Rattle.tree_laws.proofs.Fresh.{IsNamed, calls_are_low, next_is_new, numbered}
use Rattle.tree_laws.proofs.Having.{Untaken, named_or_untaken}
use Rattle.tree_laws.proofs.Holding.{Script}
use Rattle.tree_laws.proofs.Names.{same_call_own}
use Rattle.tree_laws.proofs.Scripts.{script_stays}
use Rattle.store_laws.proofs.OneTree.RemoveScripts.{Along, along_same}
use Rattle.rest_laws.proofs.Fits.EntryFacts.{IsAnswered, With, answered_stays}

-- ---- lists of answers ----

along_last : (P : Want → Answer → Type 0) (k : Script) (xs : List Answer) (a : Answer) → Along P k xs → P (k xs) a → Along P k (xs ++ a ∷ [])
along_last P k [] a h p = (p, tt)
along_last P k (x ∷ xs) a h p = (h.0, along_last P (λ ys. k (x ∷ ys)) xs a h.1 p)

along_then : (P Q : Want → Answer → Type 0) → ((w : Want) (a : Answer) → P w a → Q w a) → (k : Script) (xs : List Answer) → Along P k xs → Along Q k xs
along_then P Q each k [] h = tt
along_then P Q each k (a ∷ xs) h = (each (k []) a h.0, along_then P Q each (λ ys. k (a ∷ ys)) xs h.1)

-- ---- line by line ----

-- what the call has taken was answered so, and so was what waits
pub record Heard (c : Config) (t : List Line) (d : CallId) : Type 0 where
  pub taken : Along (IsAnswered c t d) (script c (entries t) d None) (log t d)
  pub next : (a : Answer) → Waits c t d a → IsAnswered c t d (asked_now c t d) a

module _ (c : Config) (n : ℕ) (older : List Line) (h : IsFollowed c older) (d : CallId) where
  -- each record that is a step of the call answers it so
  module _ (steps : (r : Record) → MayTell c older (Shown r) → StepRecord (entries older) r d → (a : Answer) → Waits c (With n (Shown r) older) d a → IsAnswered c (With n (Shown r) older) d (asked_now c older d) a) (named : IsNamed (entries older) d) (was : Heard c older d) where
    moved : (y : Told) → MayTell c older y → Along (IsAnswered c (With n y older) d) (script c (entries older) d None) (log older d)
    moved y m = along_then (IsAnswered c older d) (IsAnswered c (With n y older) d) (λ w a q. answered_stays c n y older h m d w a q) (script c (entries older) d None) (log older d) was.taken

    again : (y : Told) → MayTell c older y → (xs : List Answer) → Along (IsAnswered c (With n y older) d) (script c (entries older) d None) xs → Along (IsAnswered c (With n y older) d) (script c (onto_entries n y (entries older)) d None) xs
    again y m xs k = along_same (IsAnswered c (With n y older) d) (script c (entries older) d None) (script c (onto_entries n y (entries older)) d None) (λ ys. sym (script_stays c n y older d None ys h m named)) xs k

    kept : (y : Told) → MayTell c older y → log (With n y older) d ≡ log older d → Along (IsAnswered c (With n y older) d) (script c (onto_entries n y (entries older)) d None) (log (With n y older) d)
    kept y m same = subst (Along (IsAnswered c (With n y older) d) (script c (onto_entries n y (entries older)) d None)) (sym same) (again y m (log older d) (moved y m))

    clear : (y : Told) → MayTell c older y → Turns y d → (a : Answer) → Waits c (With n y older) d a → IsAnswered c (With n y older) d (asked_now c (With n y older) d) a
    clear y m turn a w = absurd (not_longer (heard c (With n y older) d) (log (With n y older) d) a (turn_clear c n y older d m turn) w)

    takes : (s : ℕ) (it : CallId) (request times : ℕ) (a : Answer) → MayTell c older (Takes s it request times a) → it ≡ d → Along (IsAnswered c (With n (Takes s it request times a) older) d) (script c (entries older) d None) (log (With n (Takes s it request times a) older) d)
    takes s it request times a m turn = subst (Along (IsAnswered c (With n y older) d) (script c (entries older) d None)) (sym (ap (λ (b : Bool). cond b (log older d ++ a ∷ []) (log older d)) (subst (λ (z : CallId). same_call it z ≡ true) turn (same_call_own it))))
        (along_last (IsAnswered c (With n y older) d) (script c (entries older) d None) (log older d) a (moved y m) (answered_stays c n y older h m d (asked_now c older d) a (was.next a (subst (λ (z : CallId). Waits c older z a) turn m.answer))))
      where
        y : Told
        y = Takes s it request times a

    over : (y : Told) → MayTell c older y → Same c older n y d ⊎ (StepOf older y d ⊎ Turns y d) → Heard c (With n y older) d
    over y m (inl s) = record {
      taken = kept y m s.log_same;
      next = λ a w. subst (λ (v : Want). IsAnswered c (With n y older) d v a) (sym (asked_same c older n y d h m named s.log_same))
          (answered_stays c n y older h m d (asked_now c older d) a (was.next a (sym s.heard_same ∙ (w ∙ ap (λ (xs : List Answer). xs ++ a ∷ []) s.log_same))));
    }
    over (Shown r) m (inr (inl step)) = record { taken = kept (Shown r) m refl; next = λ a w. subst (λ (v : Want). IsAnswered c (With n (Shown r) older) d v a) (sym (asked_same c older n (Shown r) d h m named refl)) (steps r m step a w) }
    over (Takes s it request times a) m (inr (inr turn)) = record { taken = takes s it request times a m turn; next = clear (Takes s it request times a) m turn }
    over (LooksAgain s it request times) m (inr (inr turn)) = record { taken = kept (LooksAgain s it request times) m refl; next = clear (LooksAgain s it request times) m turn }
    over (Shown r) m (inr (inr turn)) = absurd turn
    over y m (inr (inl step)) = absurd step
    over y m (inr (inr turn)) = absurd turn

    old_heard : (x : Told) → MayTell c older x → Heard c (With n x older) d
    old_heard x may = over x may (same_told c older n x d)

  new_heard : (s process : ℕ) (words : Call) → MayTell c older (Shown (says.Accept s process d words)) → Heard c (With n (Shown (says.Accept s process d words)) older) d
  new_heard s process words may = at (named_or_untaken c older h d)
    where
      x : Told
      x = Shown (says.Accept s process d words)

      at : IsNamed (entries older) d ⊎ Untaken c older d → Heard c (With n x older) d
      at (inl named) = absurd (next_is_new (entries older) s d (calls_are_low c older h d named) (numbered c (entries older) s process d words may.row))
      at (inr u) = record {
        taken = subst (Along (IsAnswered c (With n x older) d) (script c (entries (With n x older)) d None)) (sym u.log_is) tt;
        next = λ a w. absurd (not_longer (heard c older d) (log older d) a (u.heard_is ∙ sym u.log_is) w);
      }

  -- a told line
  pub told_heard : ((r : Record) → MayTell c older (Shown r) → StepRecord (entries older) r d → (a : Answer) → Waits c (With n (Shown r) older) d a → IsAnswered c (With n (Shown r) older) d (asked_now c older d) a) → (IsNamed (entries older) d → Heard c older d) → (x : Told) → MayTell c older x → IsNamed (entries (With n x older)) d → Heard c (With n x older) d
  told_heard steps later x may named = named_before c n x older d (Heard c (With n x older) d) may new (λ was. old_heard steps was (later was) x may) named
    where
      new : (s process : ℕ) (words : Call) → x ≡ Shown (says.Accept s process d words) → Heard c (With n x older) d
      new s process words is = subst (λ (y : Told). Heard c (With n y older) d) (sym is) (new_heard s process words (subst (MayTell c older) is may))
