-- Whole contents are asked of kept versions alone.
use Rattle.std.proofs.Common.{◌≡◌, ℕ, Bool, true, false, cond, List, [], ◌∷◌, ◌++◌, Option, Some, None, refl, sym, ◌∙◌, ap, subst}
use Rattle.tree_laws.proofs.of_plain_facts.Options.{some_same}
use Rattle.locus_ids.specs.declared.config.Config.{Config}
use Rattle.locus_ids.specs.declared.ids.CallId.{CallId}
use Rattle.locus_ids.specs.declared.ids.EpochId.{EpochId}
use Rattle.locus_ids.specs.declared.ids.FileId.{FileId}
use Rattle.locus_ids.specs.declared.ids.Serial.{Serial}
use Rattle.locus_ids.specs.declared.ids.Stamp.{Stamp}
use Rattle.trace_book.specs.Same.{same_call}
use Rattle.trace_book.specs.declared.call.Call.{Call}
use Rattle.trace_book.specs.declared.call.Call.TheVariants as call
use Rattle.trace_book.specs.declared.descriptor.Beginning.{Beginning}
use Rattle.trace_book.specs.declared.descriptor.Beginning.TheVariants as begins
use Rattle.trace_book.specs.declared.operation.What.TheVariants as what
use Rattle.trace_book.specs.declared.record.Record.TheVariants as says
use Rattle.call_rules.specs.declared.answer.Answer.{Answer}
use Rattle.call_rules.specs.declared.answer.Answer.TheVariants as answer
use Rattle.call_rules.specs.declared.want.Want.TheVariants as want
use Rattle.call_rules.specs.Mending.{brings}
use Rattle.call_rules.specs.Scripts.{wants, where_packed}
use Rattle.site_laws.specs.of_role_steps.Views.{Told, Shown, Takes}
use Rattle.tree_laws.specs.of_the_run.Worlds.{Line}
use Rattle.tree_model.specs.declared.accepted.Waiting.{Waiting}
use Rattle.tree_model.specs.State.{has_stamp}
use Rattle.tree_model.specs.Tree.{kept_in}
use Rattle.tree_laws.specs.of_lawful_trace.Progress.{Answers, is_packed_in}
use Rattle.tree_laws.specs.of_lawful_trace.Tables.{begun}
use Rattle.tree_laws.specs.of_lawful_trace.TreeRows.{IsCallIn}
use Rattle.tree_laws.specs.Calls.{Asks, log, script, script_as}
use Rattle.tree_laws.specs.Following.{IsFollowed, MayTell}
use Rattle.tree_laws.specs.Holding.{Instances, has_instances}
use Rattle.tree_laws.specs.Past.{WasReleased}
use Rattle.tree_laws.specs.Printed.{entries}
use Rattle.tree_laws.proofs.Awaiting.{OpensIt, all_have, named_before}
use Rattle.tree_laws.proofs.Fresh.{IsNamed}
use Rattle.tree_laws.proofs.Having.{IsSafe, safe_accept, safe_still, safe_take}
use Rattle.tree_laws.proofs.Holding.{IsNew}
use Rattle.tree_laws.proofs.Names.{same_call_eq}
use Rattle.tree_laws.specs.Orders.Joining.{PacksAreOfSites}
use Rattle.tree_laws.proofs.Orders.ProcessUnreleased.{unreleased}
use Rattle.store_laws.proofs.Holdings.Made.{CommitsAreNew}
use Rattle.store_laws.proofs.Holdings.MendGranted.{MendOf, all_mends}
use Rattle.store_laws.proofs.Holdings.MendMends.{Bringing, LooksWhole, all_brought, bringing_has, whole_looked}

abbrev With : ℕ → Told → List Line → List Line
With n x older = record { number = n; told = x } ∷ older

-- ---- a script asks of what its call has, whatever it is answered ----

new_answer : (a : Answer) (own : Instances) → ((i : Serial) → OpensIt a i → own i ≡ false) → IsNew a own
new_answer (answer.Opened inst ino) own h = h inst refl
new_answer (answer.Reading inst version) own h = h inst refl
new_answer (answer.Merging inst kept) own h = h inst refl
new_answer _ own h = tt

safe_told : (c : Config) (n : ℕ) (x : Told) (older : List Line) (d : CallId) → IsFollowed c older → MayTell c older x → IsNamed (entries older) d → IsSafe c older d → IsSafe c (With n x older) d
safe_told c n (Takes s it request times a) older d h may named k = over (same_call it d) refl
  where
    taken : it ≡ d → IsSafe c (With n (Takes s it request times a) older) d
    taken same = subst (IsSafe c (With n (Takes s it request times a) older)) same (safe_take c n s it request times a older h may (subst (IsNamed (entries older)) (sym same) named)
        (new_answer a (has_instances c older it) (λ i o. (((all_have c older h).awaits it a (subst (IsNamed (entries older)) (sym same) named) may.answer).opened i o).3)) (subst (IsSafe c older) (sym same) k))

    over : (b : Bool) → same_call it d ≡ b → IsSafe c (With n (Takes s it request times a) older) d
    over true e = taken (same_call_eq it d e)
    over false e = safe_still c n (Takes s it request times a) older h may d named (ap (λ (b : Bool). cond b (log older d ++ a ∷ []) (log older d)) e) k
safe_told c n x older d h may named k = safe_still c n x older h may d named refl k

pub all_safe : (c : Config) (trace : List Line) → IsFollowed c trace → (d : CallId) → IsNamed (entries trace) d → IsSafe c trace d
all_safe c [] h d named = absurd (none named.0 named.1)
  where
    none : (w : Waiting) → ◌≡◌ {A = Option Waiting} None (Some w) → ⊥
    none w e = cc
all_safe c (x ∷ older) h d named = named_before c x.number x.told older d (IsSafe c (x ∷ older) d) h.0 new (λ was. safe_told c x.number x.told older d h.1 h.0 was (all_safe c older h.1 d was)) named
  where
    new : (s process : ℕ) (words : Call) → x.told ≡ Shown (says.Accept s process d words) → IsSafe c (x ∷ older) d
    new s process words is = subst (λ (y : Told). IsSafe c (With x.number y older) d) (sym is) (safe_accept c x.number s process d words older h.1 (subst (MayTell c older) is h.0))

-- ---- whole contents ----

same_mend : (f g : FileId) → call.Mend f ≡ call.Mend g → f ≡ g
same_mend f g e = cc

pub whole_kept : (c : Config) (t : List Line) (e : EpochId) (d : CallId) (f : FileId) (stamp : Stamp) → PacksAreOfSites c → IsFollowed c t → CommitsAreNew c (entries t) → IsCallIn (entries t) e d → Asks c t d (want.Look f (what.Whole stamp)) → has_stamp (kept_in c (entries t) e f) stamp ≡ true
whole_kept c t e d f stamp few h new inside asks = subst (λ (ks : List Stamp). has_stamp ks stamp ≡ true) kept_is b.among
  where
    w : Waiting
    w = inside.accepted

    p : ℕ → Bool
    p = is_packed_in c (entries t) w.epoch

    looks : LooksWhole w.words (begun (entries t) d) (log t d) f stamp
    looks = whole_looked c (entries t) w (begun (entries t) d) (log t d) f stamp (subst (λ (o : Option Waiting). script_as c (entries t) o (begun (entries t) d) None (log t d) ≡ want.Look f (what.Whole stamp)) inside.named asks.asked)

    b : Bringing f (log t d) stamp
    b = looks.brings_it

    m : MendOf c t d b.inst b.kept
    m = all_mends c t few h new d b.inst b.kept b.rest (asks.nothing_waits ∙ b.log_is)

    one : m.caller ≡ w
    one = some_same m.caller w (sym m.named ∙ inside.named)

    epoch_is : m.epoch ≡ e
    epoch_is = some_same m.epoch e (sym m.made_in ∙ (ap (λ (y : Waiting). y.epoch) one ∙ inside.made_in))

    file_is : m.file ≡ f
    file_is = same_mend m.file f (sym m.words_are ∙ (ap (λ (y : Waiting). y.words) one ∙ looks.words_are))

    same : (ys : Answers) → script c (entries t) d None (log t d ++ ys) ≡ where_packed p (brings b.inst f (stamp ∷ b.left) ys)
    same ys = ap (λ (o : Option Waiting). script_as c (entries t) o (begun (entries t) d) None (log t d ++ ys)) inside.named
        ∙ (ap (λ (o : Option Beginning). script_as c (entries t) (Some w) o None (log t d ++ ys)) looks.begins_so
        ∙ (ap (λ (y : Call). wants c.mounts p None y (begins.Walks looks.by) (log t d ++ ys)) looks.words_are
        ∙ ap (where_packed p) (b.goes ys)))

    has : has_instances c t d b.inst ≡ true
    has = bringing_has p b.inst f (stamp ∷ b.left) (λ ys. script c (entries t) d None (log t d ++ ys)) (has_instances c t d) same (all_safe c t h d (w, inside.named) (all_brought (stamp ∷ b.left)))

    live : WasReleased t m.epoch b.inst → ⊥
    live r = unreleased c t e d (want.Look f (what.Whole stamp)) b.inst h inside asks has (subst (λ (y : EpochId). WasReleased t y b.inst) epoch_is r)

    kept_is : b.kept ≡ kept_in c (entries t) e f
    kept_is = subst (λ (y : FileId). b.kept ≡ kept_in c (entries t) e y) file_is (subst (λ (y : EpochId). b.kept ≡ kept_in c (entries t) y m.file) epoch_is (m.stays live))
