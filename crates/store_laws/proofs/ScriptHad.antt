-- What a call has is what its answers give it.
use Rattle.std.proofs.Common.{◌≡◌, ℕ, Bool, true, false, cond, List, [], ◌∷◌, ◌++◌, Option, Some, None, refl, sym, ◌∙◌, ap, subst, ◌⊎◌, inl, inr}
use Rattle.role_steps.proofs.of_plain_facts.Options.{none_some}
use Rattle.locus_ids.specs.declared.config.Config.{Config}
use Rattle.locus_ids.specs.declared.ids.CallId.{CallId}
use Rattle.locus_ids.specs.declared.ids.Serial.{Serial}
use Rattle.trace_book.specs.Same.{same_call}
use Rattle.trace_book.specs.declared.call.Call.{Call}
use Rattle.trace_book.specs.declared.descriptor.Beginning.{Beginning}
use Rattle.trace_book.specs.declared.record.Record.TheVariants as says
use Rattle.call_rules.specs.declared.answer.Answer.{Answer}
use Rattle.call_rules.specs.declared.want.Want.{Want}
use Rattle.role_steps.specs.Views.{Told, Shown, Takes}
use Rattle.the_run.specs.Worlds.{Line}
use Rattle.lawful_trace.specs.Progress.{Answers}
use Rattle.lawful_trace.specs.Tables.{begun}
use Rattle.tree_laws.specs.Calls.{log, script}
use Rattle.tree_laws.specs.Following.{IsFollowed, MayTell}
use Rattle.tree_laws.specs.Holding.{Instances, had_after, has_instances, with_begun}
use Rattle.tree_laws.specs.Printed.{entries, onto_entries}
use Rattle.tree_laws.specs.Serials.{asked_now}
use Rattle.tree_laws.proofs.Awaiting.{named_before}
use Rattle.tree_laws.proofs.Fresh.{IsNamed, calls_are_low, next_is_new, numbered}
use Rattle.tree_laws.proofs.Having.{Untaken, has_stays, named_or_untaken}
use Rattle.tree_laws.proofs.Names.{same_call_eq}
use Rattle.tree_laws.proofs.Scripts.{begun_stays, script_stays}
use Rattle.store_laws.proofs.ScriptEndingCalls.{has_by}
use Rattle.store_laws.proofs.ScriptFitting.{Script}

abbrev With : ℕ → Told → List Line → List Line
With n x older = record { number = n; told = x } ∷ older

pub by_same : (k l : Script) (own : Instances) (xs : List Answer) (i : Serial) → ((ys : List Answer) → k ys ≡ l ys) → has_by k own xs i ≡ has_by l own xs i
by_same k l own [] i h = refl
by_same k l own (a ∷ xs) i h = by_same (λ ys. k (a ∷ ys)) (λ ys. l (a ∷ ys)) (had_after (k []) a own) xs i (λ ys. h (a ∷ ys)) ∙ ap (λ (w : Want). has_by (λ ys. l (a ∷ ys)) (had_after w a own) xs i) (h [])

pub by_more : (k : Script) (own : Instances) (xs : List Answer) (a : Answer) (i : Serial) → has_by k own (xs ++ a ∷ []) i ≡ had_after (k xs) a (has_by k own xs) i
by_more k own [] a i = refl
by_more k own (x ∷ xs) a i = by_more (λ ys. k (x ∷ ys)) (had_after (k []) x own) xs a i

abbrev HasSo : Config → List Line → CallId → Type 0
HasSo c t d = (i : Serial) → has_instances c t d i ≡ has_by (script c (entries t) d None) (with_begun (begun (entries t) d)) (log t d) i

-- pointwise the same before an answer, so after it
had_same : (w : Want) (a : Answer) (own more : Instances) (i : Serial) → ((j : Serial) → own j ≡ more j) → had_after w a own i ≡ had_after w a more i
had_same w a own more i h = ap (λ (o : Instances). had_after w a o i) (λ k j. h j k)

has_told : (c : Config) (n : ℕ) (x : Told) (older : List Line) (d : CallId) → IsFollowed c older → MayTell c older x → IsNamed (entries older) d → HasSo c older d → HasSo c (With n x older) d
has_told c n x older d h may named k i = over x may
  where
    new : Told → List Line
    new y = With n y older

    -- nothing is taken
    still : (y : Told) → MayTell c older y → log (With n y older) d ≡ log older d → has_instances c (With n y older) d i ≡ has_by (script c (onto_entries n y (entries older)) d None) (with_begun (begun (onto_entries n y (entries older)) d)) (log (With n y older) d) i
    still y m same = has_stays c n y older h m d named same i ∙ (k i
        ∙ (sym (by_same (script c (onto_entries n y (entries older)) d None) (script c (entries older) d None) (with_begun (begun (entries older) d)) (log older d) i (λ ys. script_stays c n y older d None ys h m named))
        ∙ (ap (λ (o : Option Beginning). has_by (script c (onto_entries n y (entries older)) d None) (with_begun o) (log older d) i) (sym (begun_stays c n y older d h m named))
        ∙ ap (λ (xs : Answers). has_by (script c (onto_entries n y (entries older)) d None) (with_begun (begun (onto_entries n y (entries older)) d)) xs i) (sym same))))

    taken : (s : ℕ) (it : CallId) (request times : ℕ) (a : Answer) → MayTell c older (Takes s it request times a) → (b : Bool) → same_call it d ≡ b → has_instances c (With n (Takes s it request times a) older) d i ≡ has_by (script c (entries older) d None) (with_begun (begun (entries older) d)) (log (With n (Takes s it request times a) older) d) i
    taken s it request times a m false e = still (Takes s it request times a) m (ap (λ (b : Bool). cond b (log older d ++ a ∷ []) (log older d)) e)
    taken s it request times a m true e = ap (λ (b : Bool). cond b (had_after (asked_now c older it) a (has_instances c older d) i) (has_instances c older d i)) e
        ∙ (ap (λ (z : CallId). had_after (asked_now c older z) a (has_instances c older d) i) (same_call_eq it d e)
        ∙ (had_same (asked_now c older d) a (has_instances c older d) (has_by (script c (entries older) d None) (with_begun (begun (entries older) d)) (log older d)) i k
        ∙ (sym (by_more (script c (entries older) d None) (with_begun (begun (entries older) d)) (log older d) a i)
        ∙ ap (λ (xs : Answers). has_by (script c (entries older) d None) (with_begun (begun (entries older) d)) xs i) (sym (ap (λ (b : Bool). cond b (log older d ++ a ∷ []) (log older d)) e)))))

    over : (y : Told) → MayTell c older y → has_instances c (With n y older) d i ≡ has_by (script c (onto_entries n y (entries older)) d None) (with_begun (begun (onto_entries n y (entries older)) d)) (log (With n y older) d) i
    over (Takes s it request times a) m = taken s it request times a m (same_call it d) refl
    over (Shown r) m = still (Shown r) m refl
    over y m = still y m refl

has_new : (c : Config) (n s process : ℕ) (d : CallId) (words : Call) (older : List Line) → IsFollowed c older → MayTell c older (Shown (says.Accept s process d words)) → HasSo c (With n (Shown (says.Accept s process d words)) older) d
has_new c n s process d words older h may i = over (named_or_untaken c older h d)
  where
    x : Told
    x = Shown (says.Accept s process d words)

    over : IsNamed (entries older) d ⊎ Untaken c older d → has_instances c (With n x older) d i ≡ has_by (script c (entries (With n x older)) d None) (with_begun (begun (entries (With n x older)) d)) (log older d) i
    over (inl named) = absurd (next_is_new (entries older) s d (calls_are_low c older h d named) (numbered c (entries older) s process d words may.row))
    over (inr u) = u.has_is (with_begun (begun (entries (With n x older)) d)) i ∙ ap (λ (xs : Answers). has_by (script c (entries (With n x older)) d None) (with_begun (begun (entries (With n x older)) d)) xs i) (sym u.log_is)

-- what a call has by its log
pub has_log : (c : Config) (t : List Line) → IsFollowed c t → (d : CallId) → IsNamed (entries t) d → HasSo c t d
has_log c [] h d named = absurd (none_some named.0 named.1)
has_log c (x ∷ older) h d named = at (λ was. has_log c older h.1 d was)
  where
    at : (IsNamed (entries older) d → HasSo c older d) → HasSo c (x ∷ older) d
    at later = named_before c x.number x.told older d (HasSo c (x ∷ older) d) h.0 new (λ was. has_told c x.number x.told older d h.1 h.0 was (later was)) named
      where
        new : (s process : ℕ) (words : Call) → x.told ≡ Shown (says.Accept s process d words) → HasSo c (x ∷ older) d
        new s process words is = subst (λ (y : Told). HasSo c (With x.number y older) d) (sym is) (has_new c x.number s process d words older h.1 (subst (MayTell c older) is h.0))
