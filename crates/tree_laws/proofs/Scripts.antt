-- What the script of an accepted call asks after some answers stays the same, whatever may be told.
use Rattle.std.proofs.Common.{◌≡◌, ℕ, Bool, true, false, cond, List, ◌∷◌, Option, Some, None, refl, sym, ◌∙◌, ap, subst, ◌⊎◌, inl, inr}
use Rattle.std.specs.Option.{is_some}
use Rattle.locus_ids.specs.declared.config.Config.{Config}
use Rattle.locus_ids.specs.declared.ids.CallId.{CallId}
use Rattle.locus_ids.specs.declared.ids.EpochId.{EpochId}
use Rattle.locus_ids.specs.declared.sites.Members.{Members}
use Rattle.trace_book.specs.Same.{same_call, same_epoch}
use Rattle.trace_book.specs.declared.call.Call.{Call}
use Rattle.trace_book.specs.declared.descriptor.Beginning.{Beginning}
use Rattle.trace_book.specs.declared.record.Record.{Record}
use Rattle.trace_book.specs.declared.record.Record.TheVariants as says
use Rattle.call_rules.specs.Scripts.{wants}
use Rattle.the_run.specs.of_role_steps.Views.{Told, Shown}
use Rattle.the_run.specs.Worlds.{Line}
use Rattle.lawful_trace.specs.of_tree_model.declared.accepted.Waiting.{Waiting}
use Rattle.lawful_trace.specs.of_tree_model.Calls.{call_named, accepted_as}
use Rattle.lawful_trace.specs.of_tree_model.Epochs.{members_of}
use Rattle.lawful_trace.specs.of_tree_model.Folds.{Trace}
use Rattle.lawful_trace.specs.of_tree_model.Packs.{sync_site}
use Rattle.lawful_trace.specs.CallRows.{next_call}
use Rattle.lawful_trace.specs.Lawful.{MayCome}
use Rattle.lawful_trace.specs.Progress.{Answers, is_packed_in}
use Rattle.lawful_trace.specs.Tables.{begun, begins_now}
use Rattle.lawful_trace.specs.TreeRows.{IsCallIn}
use Rattle.tree_laws.specs.Printed.{entries, onto_entries}
use Rattle.tree_laws.specs.Calls.{script, script_as}
use Rattle.tree_laws.specs.Following.{MayTell, IsFollowed}
use Rattle.tree_laws.proofs.Names.{same_call_eq, same_epoch_eq}
use Rattle.tree_laws.proofs.Fresh.{IsLow, IsNamed, IsListed, next_is_new, numbered, calls_are_low, call_listed}

-- ---- one record ----

-- the members of a listed epoch stay
pub members_same : (c : Config) (n : ℕ) (r : Record) (before : Trace) (e : EpochId) → MayCome c before r → IsListed before e → members_of (record { line = n; what = r } ∷ before) e ≡ members_of before e
members_same c n (says.Join s at members) before e may h = over (same_epoch at e) (same_epoch_eq at e)
  where
    none_some : (m : Members) → ◌≡◌ {A = Option Members} None (Some m) → ⊥
    none_some m k = cc

    same : at ≡ e → members_of before at ≡ None ⊎ members_of before at ≡ Some members → Some members ≡ members_of before e
    same k (inl none) = absurd (none_some h.0 (sym (subst (λ (x : EpochId). members_of before x ≡ None) k none) ∙ h.1))
    same k (inr some) = sym (subst (λ (x : EpochId). members_of before x ≡ Some members) k some)

    over : (b : Bool) → (b ≡ true → at ≡ e) → cond b (Some members) (members_of before e) ≡ members_of before e
    over true k = same (k refl) may.same
    over false k = refl
members_same c n _ before e may h = refl

-- an accepted call stays what it is
record Stays (before after : Trace) (d : CallId) : Type 0 where
  named : call_named after d ≡ call_named before d
  begins : begun after d ≡ begun before d

stays_accept : (n s process : ℕ) (new : CallId) (words : Call) (before : Trace) (d : CallId) → new ≡ next_call before s → IsLow before d → Stays before (record { line = n; what = says.Accept s process new words } ∷ before) d
stays_accept n s process new words before d is low = over (same_call new d) (λ e. next_is_new before s d low (sym (same_call_eq new d e) ∙ is))
  where
    both : (b : Bool) → (b ≡ true → ⊥) → (cond b (Some (accepted_as before s process new words)) (call_named before d) ≡ call_named before d) × (cond b (Some (begins_now before s process new words)) (begun before d) ≡ begun before d)
    both true differ = absurd (differ refl)
    both false differ = (refl, refl)

    over : (b : Bool) → (same_call new d ≡ true → ⊥) → Stays before (record { line = n; what = says.Accept s process new words } ∷ before) d
    over b differ = record { named = (both (same_call new d) differ).0; begins = (both (same_call new d) differ).1 }

stays_record : (c : Config) (n : ℕ) (r : Record) (before : Trace) (d : CallId) → MayCome c before r → IsLow before d → Stays before (record { line = n; what = r } ∷ before) d
stays_record c n (says.Accept s process new words) before d may low = stays_accept n s process new words before d (numbered c before s process new words may) low
stays_record c n _ before d may low = record { named = refl; begins = refl }

-- ---- the script ----

packed_same : (c : Config) (before after : Trace) (o : Option EpochId) → ((e : EpochId) → o ≡ Some e → members_of after e ≡ members_of before e) → is_packed_in c after o ≡ is_packed_in c before o
packed_same c before after None h = refl
packed_same c before after (Some e) h = let packs : Option Members → ℕ → Bool = λ m group. is_some (sync_site c group m) in ap packs (h e refl)

script_over : (c : Config) (before after : Trace) (free : Option ℕ) (xs : Answers) (o : Option Waiting) (b : Option Beginning) →
    ((w : Waiting) → o ≡ Some w → is_packed_in c after w.epoch ≡ is_packed_in c before w.epoch) → script_as c after o b free xs ≡ script_as c before o b free xs
script_over c before after free xs None b h = refl
script_over c before after free xs (Some w) None h = refl
script_over c before after free xs (Some w) (Some s) h = ap (λ (p : ℕ → Bool). wants c.mounts p free w.words s xs) (h w refl)

script_from : (c : Config) (before after : Trace) (d : CallId) (free : Option ℕ) (xs : Answers) → Stays before after d →
    ((w : Waiting) → call_named before d ≡ Some w → is_packed_in c after w.epoch ≡ is_packed_in c before w.epoch) → script c after d free xs ≡ script c before d free xs
script_from c before after d free xs s h =
    ap (λ (o : Option Waiting). script_as c after o (begun after d) free xs) s.named
    ∙ (ap (λ (o : Option Beginning). script_as c after (call_named before d) o free xs) s.begins ∙ script_over c before after free xs (call_named before d) (begun before d) h)

script_record : (c : Config) (n : ℕ) (r : Record) (older : List Line) (d : CallId) (free : Option ℕ) (xs : Answers) → MayCome c (entries older) r → IsLow (entries older) d →
    script c (record { line = n; what = r } ∷ entries older) d free xs ≡ script c (entries older) d free xs
script_record c n r older d free xs may low =
    script_from c (entries older) (record { line = n; what = r } ∷ entries older) d free xs (stays_record c n r (entries older) d may low)
    (λ w named. packed_same c (entries older) (record { line = n; what = r } ∷ entries older) w.epoch (λ e in_it. members_same c n r (entries older) e may (call_listed older d w e named in_it)))

script_told : (c : Config) (n : ℕ) (x : Told) (older : List Line) (d : CallId) (free : Option ℕ) (xs : Answers) → MayTell c older x → IsLow (entries older) d →
    script c (onto_entries n x (entries older)) d free xs ≡ script c (entries older) d free xs
script_told c n (Shown r) older d free xs may low = script_record c n r older d free xs may.row low
script_told c n _ older d free xs may low = refl

pub script_stays : (c : Config) (n : ℕ) (x : Told) (older : List Line) (d : CallId) (free : Option ℕ) (xs : Answers) → IsFollowed c older → MayTell c older x → IsNamed (entries older) d →
    script c (onto_entries n x (entries older)) d free xs ≡ script c (entries older) d free xs
script_stays c n x older d free xs h may named = script_told c n x older d free xs may (calls_are_low c older h d named)

-- an accepted call stays what it is
named_told : (c : Config) (n : ℕ) (x : Told) (older : List Line) (d : CallId) → MayTell c older x → IsLow (entries older) d → call_named (onto_entries n x (entries older)) d ≡ call_named (entries older) d
named_told c n (Shown r) older d may low = (stays_record c n r (entries older) d may.row low).named
named_told c n _ older d may low = refl

pub named_stays : (c : Config) (n : ℕ) (x : Told) (older : List Line) (d : CallId) → IsFollowed c older → MayTell c older x → IsNamed (entries older) d → call_named (onto_entries n x (entries older)) d ≡ call_named (entries older) d
named_stays c n x older d h may named = named_told c n x older d may (calls_are_low c older h d named)

begun_told : (c : Config) (n : ℕ) (x : Told) (older : List Line) (d : CallId) → MayTell c older x → IsLow (entries older) d → begun (onto_entries n x (entries older)) d ≡ begun (entries older) d
begun_told c n (Shown r) older d may low = (stays_record c n r (entries older) d may.row low).begins
begun_told c n _ older d may low = refl

-- and began where it began
pub begun_stays : (c : Config) (n : ℕ) (x : Told) (older : List Line) (d : CallId) → IsFollowed c older → MayTell c older x → IsNamed (entries older) d → begun (onto_entries n x (entries older)) d ≡ begun (entries older) d
begun_stays c n x older d h may named = begun_told c n x older d may (calls_are_low c older h d named)

pub in_stays : (c : Config) (n : ℕ) (x : Told) (older : List Line) (e : EpochId) (d : CallId) → IsFollowed c older → MayTell c older x → IsCallIn (entries older) e d → IsCallIn (onto_entries n x (entries older)) e d
in_stays c n x older e d h may k = record { accepted = k.accepted; named = named_stays c n x older d h may (k.accepted, k.named) ∙ k.named; made_in = k.made_in }
