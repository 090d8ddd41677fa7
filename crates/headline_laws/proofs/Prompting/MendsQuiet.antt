-- Where no mend is left to start at a site, or it is in no epoch, none starts at the end of an event that brings nothing of its epoch.
use Rattle.std.proofs.Common.{◌≡◌, ℕ, ◌+◌, ◌<◌, ◌≤◌, Bool, true, false, not, ◌&&◌, List, [], ◌∷◌, filter, map, Option, None, Some, refl, sym, ◌∙◌, ap, subst, ◌⊎◌, inl, inr}
use Rattle.role_steps.proofs.of_plain_facts.Tests.{true_false}
use Rattle.locus_ids.specs.declared.config.Config.{Config}
use Rattle.locus_ids.specs.declared.ids.FileId.{FileId}
use Rattle.locus_ids.specs.declared.sites.Links.{Links}
use Rattle.trace_book.specs.declared.call.Call.{Call}
use Rattle.lawful_trace.specs.LineRows.{is_mend}
use Rattle.role_steps.specs.Epochs.{begins_round, boots_where, chosen_members, chosen_set, decides_if, frame_in, is_sync_site, leaves_of, own_groups, part_boot, passed_over, passes_over, passes_over_of, starts_part, starts_part_of, unanswered}
use Rattle.role_steps.specs.Mends.{has_mend_in, starts_mend, starts_mend_of, starts_mends_in, wants_mend}
use Rattle.role_steps.specs.Reports.{new_table}
use Rattle.role_steps.specs.Requests.{waiting_span}
use Rattle.role_steps.specs.Tables.{first_that}
use Rattle.role_steps.specs.Views.{Frame, Outcome, SiteView, Users, and_then, quiet}
use Rattle.role_steps.specs.declared.rounds.InEpoch.{InEpoch}
use Rattle.role_steps.specs.declared.rounds.Round.{Round}
use Rattle.role_steps.specs.declared.synchronizing.FileRow.{FileRow}
use Rattle.role_steps.specs.declared.synchronizing.SyncTable.{SyncTable}
use Rattle.the_run.specs.Kept.{Among}
use Rattle.the_run.specs.Steps.{call_frame, epoch_id, starts_mends_of, takes_call}
use Rattle.calm_laws.proofs.Convergence.DirectoriesMended.{NoneWants}
use Rattle.headline_laws.proofs.Prompting.MendsKeep.{KeepsMends, call_keeps}

-- ---- no mend starts ----

-- no mend of the group would start
abbrev pub NoStart : SiteView → SyncTable → Type 0
NoStart v t = (t.started && not (has_mend_in v.users t.group)) ≡ true → first_that (wants_mend v t) t.files ≡ None

not_started : (f : Frame) (t : SyncTable) (v : SiteView) → NoStart v t → starts_mend f t v ≡ quiet v
not_started f t v h = by_guard (t.started && not (has_mend_in v.users t.group)) h
  where
    by_guard : (b : Bool) → (b ≡ true → first_that (wants_mend v t) t.files ≡ None) → elim b as (λ (y : Bool). Outcome SiteView) [ true ↦ starts_mend_of f t (first_that (wants_mend v t) t.files) v | false ↦ quiet v ] ≡ quiet v
    by_guard true k = ap (λ (o : Option FileRow). starts_mend_of f t o v) (k refl)
    by_guard false k = refl

none_starts : (f : Frame) (ts : List SyncTable) (v : SiteView) → ((t : SyncTable) → Among t ts → NoStart v t) → (starts_mends_in f ts v).told ≡ []
none_starts f [] v h = refl
none_starts f (t ∷ ts) v h = subst (λ (o : Outcome SiteView). (and_then o (starts_mends_in f ts)).told ≡ []) (sym (not_started f t v (h t (inl refl)))) (none_starts f ts v (λ x a. h x (inr a)))

-- a group starts later than its site joins
new_quiet : (f : Frame) (gs : List ℕ) (v : SiteView) → (starts_mends_in f (map new_table gs) v).told ≡ []
new_quiet f [] v = refl
new_quiet f (g ∷ gs) v = new_quiet f gs v

outside_quiet : (c : Config) (me : ℕ) (o : Option InEpoch) (v : SiteView) → o ≡ None → (starts_mends_of c me o v).told ≡ []
outside_quiet c me o v k = subst (λ (x : Option InEpoch). (starts_mends_of c me x v).told ≡ []) (sym k) refl

-- ---- at the end of an event ----

-- nothing is told of mends at the end of an event that leaves this view
abbrev pub EndsQuiet : Config → ℕ → Links → SiteView → Type 0
EndsQuiet c me links v = (starts_mends_of c me (passes_over c me links v).view.epoch (passes_over c me links v).view).told ≡ []

pub ends_outside : (c : Config) (me : ℕ) (links : Links) (v : SiteView) → v.epoch ≡ None → EndsQuiet c me links v
ends_outside c me links v none = by_round v.round
  where
    decided : (r : Round) (ss : List ℕ) → (starts_mends_of c me (decides_if c me links r ss v).view.epoch (decides_if c me links r ss v).view).told ≡ []
    decided r [] = new_quiet (frame_in c me (decides_if c me links r [] v).view.boot (record { id = r.id; members = chosen_members me v.boot r (chosen_set me links r) })) (filter (is_sync_site c me (chosen_members me v.boot r (chosen_set me links r))) (own_groups c me)) (decides_if c me links r [] v).view
    decided r (s ∷ ss) = outside_quiet c me v.epoch (record v { round = Some r }) none

    by_round : (o : Option Round) → (starts_mends_of c me (passes_over_of c me links o v).view.epoch (passes_over_of c me links o v).view).told ≡ []
    by_round None = outside_quiet c me v.epoch v none
    by_round (Some r) = decided (passed_over links r) (unanswered (passed_over links r))

pub ends_inside : (c : Config) (me : ℕ) (links : Links) (v : SiteView) → v.round ≡ None → ((t : SyncTable) → Among t v.tables → NoStart v t) → EndsQuiet c me links v
ends_inside c me links v none h = subst (λ (o : Option Round). (starts_mends_of c me (passes_over_of c me links o v).view.epoch (passes_over_of c me links o v).view).told ≡ []) (sym none) (by_epoch v.epoch)
  where
    by_epoch : (o : Option InEpoch) → (starts_mends_of c me o v).told ≡ []
    by_epoch None = refl
    by_epoch (Some e) = none_starts (frame_in c me v.boot e) v.tables v h

-- ---- what a site does of itself leaves it so ----

pub left_outside : (me : ℕ) (v : SiteView) (o : Option InEpoch) → v.epoch ≡ o → (leaves_of me o v).view.epoch ≡ None
left_outside me v None k = k
left_outside me v (Some e) k = refl

pub begun_outside : (me : ℕ) (links : Links) (number : ℕ) (polled : Links) (v : SiteView) → (begins_round me links number polled v).view.epoch ≡ None
begun_outside me links number polled v = left_outside me v v.epoch refl

pub parted_outside : (me : ℕ) (links : Links) (v : SiteView) → (starts_part me links v).view.epoch ≡ None
parted_outside me links v = over v.epoch refl
  where
    over : (o : Option InEpoch) → v.epoch ≡ o → (starts_part_of me links o v).view.epoch ≡ None
    over None k = k
    over (Some i) k = begun_outside me links (v.promised.number + 1) (boots_where (part_boot me links i.members)) v

-- ---- a call of a user ----

-- no mend of a site is left to start
pub record HasNoneLeft (v : SiteView) (t : SyncTable) : Type 0 where
  pub small : t.group < waiting_span
  pub none : t.started ≡ true → has_mend_in v.users t.group ≡ false → NoneWants v t

-- a site in no epoch, or none of whose mends is left
abbrev pub IsMended : SiteView → Type 0
IsMended v = (v.epoch ≡ None) ⊎ ((v.round ≡ None) × ((t : SyncTable) → Among t v.tables → HasNoneLeft v t))

first_none : (test : FileRow → Bool) (xs : List FileRow) → ((r : FileRow) → Among r xs → test r ≡ true → ⊥) → first_that test xs ≡ None
first_none test [] h = refl
first_none test (x ∷ xs) h = by_test (test x) refl (first_none test xs (λ r a. h r (inr a)))
  where
    by_test : (b : Bool) → test x ≡ b → first_that test xs ≡ None → elim b as (λ (y : Bool). Option FileRow) [ true ↦ Some x | false ↦ first_that test xs ] ≡ None
    by_test true e k = absurd (h x (inl refl) e)
    by_test false e k = k

users_wants : (v : SiteView) (n : Users) (t : SyncTable) (r : FileRow) → n.hopeless ≡ v.users.hopeless → wants_mend (record v { users = n }) t r ≡ wants_mend v t r
users_wants v n t r h = ap (λ (files : List FileId). wants_mend (record v { users = record v.users { hopeless = files } }) t r) h

still_none : (v : SiteView) (n : Users) (t : SyncTable) → HasNoneLeft v t → KeepsMends t.group v.users n → NoStart (record v { users = n }) t
still_none v n t h k guard = first_none (wants_mend (record v { users = n }) t) t.files (λ r a wants. h.none (first_true t.started _ guard) (was_idle (has_mend_in v.users t.group) refl) r a (sym (users_wants v n t r k.hopeless) ∙ wants))
  where
    first_true : (a b : Bool) → (a && b) ≡ true → a ≡ true
    first_true true b e = refl
    first_true false b e = e

    second_true : (a b : Bool) → (a && b) ≡ true → b ≡ true
    second_true true b e = e
    second_true false b e = absurd (true_false (sym e))

    not_true : (a : Bool) → a ≡ true → not a ≡ true → ⊥
    not_true true e q = true_false (sym q)
    not_true false e q = true_false (sym e)

    was_idle : (b : Bool) → has_mend_in v.users t.group ≡ b → b ≡ false
    was_idle true e = absurd (not_true (has_mend_in n t.group) (k.stays e) (second_true t.started (not (has_mend_in n t.group)) guard))
    was_idle false e = refl

pub call_quiet : (c : Config) (me : ℕ) (links : Links) (process : ℕ) (words : Call) (v : SiteView) → IsMended v → is_mend words ≡ false → 1 ≤ process → EndsQuiet c me links (takes_call c me process words v).view
call_quiet c me links process words v (inl none) user low = ends_outside c me links (takes_call c me process words v).view none
call_quiet c me links process words v (inr h) user low = ends_inside c me links (takes_call c me process words v).view h.0 (λ t a. still_none v _ t (h.1 t a) (call_keeps t.group (call_frame c me v.boot v.epoch) (epoch_id v.epoch) process words v.users user low (h.1 t a).small))
