-- A call whose answer has named an instance is over: it doesn't wait, and asks nothing.
use Rattle.std.proofs.Common.{◌≡◌, ℕ, ◌==◌, Bool, true, false, not, ◌&&◌, ◌||◌, List, [], ◌∷◌, Some, refl, sym, ◌∙◌, ap, subst}
use Rattle.the_run.proofs.of_plain_facts.Tests.{true_false}
use Rattle.locus_ids.specs.declared.config.Config.{Config}
use Rattle.locus_ids.specs.declared.ids.CallId.{CallId}
use Rattle.trace_book.specs.Same.{same_call}
use Rattle.trace_book.specs.declared.record.Record.{Record}
use Rattle.trace_book.specs.declared.record.Record.TheVariants as says
use Rattle.trace_book.specs.declared.reply.Reply.{Reply}
use Rattle.the_run.specs.of_role_steps.Views.{Told, Shown}
use Rattle.the_run.specs.Worlds.{Line}
use Rattle.lawful_trace.specs.of_tree_model.declared.accepted.Waiting.{Waiting}
use Rattle.lawful_trace.specs.of_tree_model.Calls.{call_named, waiting}
use Rattle.lawful_trace.specs.CallRows.{is_this}
use Rattle.lawful_trace.specs.Tables.{names_instance, has_named}
use Rattle.tree_laws.specs.Printed.{entries}
use Rattle.tree_laws.specs.Calls.{is_request}
use Rattle.tree_laws.specs.Serials.{asked_now}
use Rattle.tree_laws.specs.Following.{MayTell, IsFollowed}
use Rattle.tree_laws.specs.Processes.{IsOver}
use Rattle.tree_laws.proofs.Boots.{every_passes, found_every}
use Rattle.tree_laws.proofs.Counting.{asked_same}
use Rattle.tree_laws.proofs.Later.{over_stays}
use Rattle.tree_laws.proofs.Names.{same_call_eq, same_call_own}
use Rattle.tree_laws.proofs.Owners.{naming_reply}
use Rattle.tree_laws.proofs.Scripts.{named_stays}
use Rattle.tree_laws.proofs.Waiting.{accepted}

abbrev With : ℕ → Told → List Line → List Line
With n x older = record { number = n; told = x } ∷ older

-- the call was accepted, and is over
pub record IsDone (c : Config) (t : List Line) (d : CallId) : Type 0 where
  pub caller : Waiting
  pub named : call_named (entries t) d ≡ Some caller
  pub over : IsOver c t d

abbrev pub AllDone : Config → List Line → Type 0
AllDone c t = (d : CallId) → has_named (entries t) d ≡ true → IsDone c t d

done_stays : (c : Config) (n : ℕ) (x : Told) (older : List Line) (d : CallId) → IsFollowed c older → MayTell c older x → IsDone c older d → IsDone c (With n x older) d
done_stays c n x older d h may k = record {
  caller = k.caller;
  named = named_stays c n x older d h may (k.caller, k.named) ∙ k.named;
  over = over_stays c n x older h may d (k.caller, k.named) k.over;
}

third : (p q b : Bool) → (p && q && b) ≡ true → b ≡ true
third p q true t = refl
third true true false t = absurd (true_false (sym t))
third true false false t = absurd (true_false (sym t))
third false q false t = absurd (true_false (sym t))

done_answer : (c : Config) (n s process : ℕ) (call : CallId) (r : Reply) (older : List Line) → IsFollowed c older → MayTell c older (Shown (says.Answer s process call r)) → AllDone c older → AllDone c (With n (Shown (says.Answer s process call r)) older)
done_answer c n s process call r older h may k d t = at (same_call call d) (names_instance r) refl refl t
  where
    found : (call_named (entries older) may.row.caller.call ≡ Some may.row.caller) × (is_this s process call may.row.caller ≡ true)
    found = found_every (λ (w : Waiting). call_named (entries older) w.call ≡ Some w) (is_this s process call) (waiting (entries older)) may.row.caller may.row.waits (accepted c older h).waits

    is : may.row.caller.call ≡ call
    is = same_call_eq may.row.caller.call call (third (may.row.caller.site == s) (may.row.caller.process == process) (same_call may.row.caller.call call) found.1)

    named : call_named (entries older) call ≡ Some may.row.caller
    named = ap (call_named (entries older)) (sym is) ∙ found.0

    apart : (w : Waiting) → not (same_call w.call call) ≡ true → w.call ≡ call → ⊥
    apart w p same = true_false (sym p ∙ ap not (subst (λ (x : CallId). same_call x call ≡ true) (sym same) (same_call_own call)))

    own : names_instance r ≡ true → IsDone c (With n (Shown (says.Answer s process call r)) older) call
    own o = record {
      caller = may.row.caller;
      named = named;
      over = record {
        quiet = every_passes (λ (w : Waiting). w.call ≡ call → ⊥) (λ (w : Waiting). not (same_call w.call call)) apart (waiting (entries older));
        asks_nothing = ap is_request (asked_same c older n (Shown (says.Answer s process call r)) call h may (may.row.caller, named) refl) ∙ (naming_reply c older call r may.in_time o).replies.nothing_asked;
      };
    }

    at : (a b : Bool) → same_call call d ≡ a → names_instance r ≡ b → (a && b || has_named (entries older) d) ≡ true → IsDone c (With n (Shown (says.Answer s process call r)) older) d
    at true true p q u = subst (IsDone c (With n (Shown (says.Answer s process call r)) older)) (same_call_eq call d p) (own q)
    at true false p q u = done_stays c n (Shown (says.Answer s process call r)) older d h may (k d u)
    at false b p q u = done_stays c n (Shown (says.Answer s process call r)) older d h may (k d u)

done_record : (c : Config) (n : ℕ) (r : Record) (older : List Line) → IsFollowed c older → MayTell c older (Shown r) → AllDone c older → AllDone c (With n (Shown r) older)
done_record c n (says.Answer s process call r) older h may k d t = done_answer c n s process call r older h may k d t
done_record c n r older h may k d t = done_stays c n (Shown r) older d h may (k d t)

done_told : (c : Config) (n : ℕ) (x : Told) (older : List Line) → IsFollowed c older → MayTell c older x → AllDone c older → AllDone c (With n x older)
done_told c n (Shown r) older h may k = done_record c n r older h may k
done_told c n x older h may k = λ d t. done_stays c n x older d h may (k d t)

pub all_done : (c : Config) (trace : List Line) → IsFollowed c trace → AllDone c trace
all_done c [] h d t = absurd (true_false (sym t))
all_done c (x ∷ older) h d t = done_told c x.number x.told older h.1 h.0 (all_done c older h.1) d t

-- a call that asks something has named no instance by a descriptor
pub asker_unnamed : (c : Config) (trace : List Line) (d : CallId) → IsFollowed c trace → is_request (asked_now c trace d) ≡ true → has_named (entries trace) d ≡ false
asker_unnamed c trace d h asks = at (has_named (entries trace) d) refl
  where
    at : (b : Bool) → has_named (entries trace) d ≡ b → has_named (entries trace) d ≡ false
    at true t = absurd (true_false (sym asks ∙ (all_done c trace h d t).over.asks_nothing))
    at false t = t
