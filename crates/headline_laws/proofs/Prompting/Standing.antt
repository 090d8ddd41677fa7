-- In every run each record stands at a line at which it may.
use Rattle.std.proofs.Common.{◌≡◌, ◌≤◌, ℕ, ◌+◌, Bool, true, false, not, ◌&&◌, ◌||◌, List, [], ◌∷◌, ◌++◌, Option, None, Some, refl, sym, subst, ◌⊎◌, inl, inr}
use Rattle.role_steps.proofs.of_plain_facts.Tests.{true_false}
use Rattle.locus_ids.specs.declared.config.Config.{Config}
use Rattle.locus_ids.specs.declared.ids.EpochId.{EpochId}
use Rattle.locus_ids.specs.declared.sites.Links.{Links}
use Rattle.locus_ids.specs.declared.sites.Members.{Members}
use Rattle.schedule_lines.specs.declared.line.Line.{Line as LineWords}
use Rattle.schedule_lines.specs.declared.line.Line.TheVariants as line
use Rattle.schedule_lines.specs.declared.line.ScheduleLine.{ScheduleLine}
use Rattle.schedule_lines.specs.declared.line.ScheduleLine.TheVariants.{Event}
use Rattle.trace_book.specs.declared.call.Call.{Call}
use Rattle.trace_book.specs.declared.call.Call.TheVariants as call
use Rattle.trace_book.specs.declared.record.Record.TheVariants as says
use Rattle.role_steps.specs.Adoption.{adopts_first, adopts_pull, is_ready, without_pull, fits_own}
use Rattle.role_steps.specs.Epochs.{begins_round, boots_where, chosen_members, chosen_set, decides_if, frame_in, leaves, leaves_of, merge_boot, part_boot, passed_over, passes_over, passes_over_of, reached, round_id, starts_merge, starts_part, starts_part_of, unanswered}
use Rattle.role_steps.specs.Mends.{has_mend_in, row_file, starts_mend, starts_mend_of, starts_mends_in, wants_mend}
use Rattle.role_steps.specs.Own.{Every}
use Rattle.role_steps.specs.Storage.{copy_of}
use Rattle.role_steps.specs.Tables.{first_that}
use Rattle.role_steps.specs.Using.{changed_records, goes_on, on_call, counted_users, counted_call, accepted_call}
use Rattle.role_steps.specs.Views as views
use Rattle.role_steps.specs.Views.{Calls, DiskWrite, Frame, GivesUp, Merges, Outcome, Parts, Promises, Receives, Shown, SiteView, Ticks, Told, Users, quiet}
use Rattle.role_steps.specs.declared.pulls.Pull.{Pull}
use Rattle.role_steps.specs.declared.rounds.InEpoch.{InEpoch}
use Rattle.role_steps.specs.declared.rounds.Round.{Round}
use Rattle.role_steps.specs.declared.synchronizing.FileRow.{FileRow}
use Rattle.role_steps.specs.declared.synchronizing.SyncTable.{SyncTable}
use Rattle.role_steps.specs.declared.users.WaitingCall.{WaitingCall}
use Rattle.role_steps.proofs.Sending.{every_append}
use Rattle.the_run.specs.Steps.{adopts_in, adopts_of, call_frame, epoch_id, ends_event, starts_mends_of, step, takes_call}
use Rattle.the_run.specs.Worlds.{World}
use Rattle.lawful_trace.specs.LineRows.{is_mend}
use Rattle.lawful_trace.specs.Prompt.{stands_at, ticks}
use Rattle.row_laws.specs.ByLine.{Gives as LineGives}
use Rattle.headline_laws.proofs.Prompting.Heads.{Gives, goes_told}
use Rattle.headline_laws.proofs.Prompting.MendsQuiet.{EndsQuiet, IsMended, begun_outside, call_quiet, ends_outside, left_outside, parted_outside}

-- ---- what may stand at a line ----

abbrev pub Stands : ScheduleLine → Told → Type 0
Stands l (Shown r) = stands_at l r ≡ true
Stands l _ = Unit {0}

-- of calls of users, and of a leave, at whatever line
abbrev pub IsAnywhere : Told → Type 0
IsAnywhere (Shown (says.Accept site process d words)) = is_mend words ≡ false
IsAnywhere (Shown (says.Answer site process d r)) = Unit {0}
IsAnywhere (Shown (says.Leave site e)) = Unit {0}
IsAnywhere (Shown _) = ⊥
IsAnywhere _ = Unit {0}

user_stands : (l : ScheduleLine) (b : Bool) → b ≡ false → (not b || ticks l) ≡ true
user_stands l true k = absurd (true_false k)
user_stands l false k = refl

anywhere : (l : ScheduleLine) (x : Told) → IsAnywhere x → Stands l x
anywhere l (Shown (says.Accept site process d words)) k = user_stands l (is_mend words) k
anywhere l (Shown (says.Answer site process d r)) k = refl
anywhere l (Shown (says.Leave site e)) k = refl
anywhere l (Shown _) k = absurd k
anywhere l _ k = tt

all_anywhere : (l : ScheduleLine) (xs : List Told) → Every IsAnywhere xs → Every (Stands l) xs
all_anywhere l [] k = tt
all_anywhere l (x ∷ xs) k = (anywhere l x k.0, all_anywhere l xs k.1)

goes_anywhere : (f : Frame) (w : WaitingCall) (u : Users) → Every IsAnywhere (goes_on f w u).told
goes_anywhere f w u = over (goes_told f w u)
  where
    over : ((goes_on f w u).told ≡ []) ⊎ Gives f w u (goes_on f w u).told → Every IsAnywhere (goes_on f w u).told
    over (inl e) = subst (Every IsAnywhere) (sym e) tt
    over (inr g) = subst (Every IsAnywhere) (sym g.told_is) (tt, tt)

-- at a tick mends start too
ticks_true : (l : ScheduleLine) (b : Bool) → ticks l ≡ true → (b || ticks l) ≡ true
ticks_true l true k = refl
ticks_true l false k = k

mend_ticks : (l : ScheduleLine) → ticks l ≡ true → (f : Frame) (t : SyncTable) (o : Option FileRow) (v : SiteView) → Every (Stands l) (starts_mend_of f t o v).told
mend_ticks l k f t None v = tt
mend_ticks l k f t (Some r) v = (k, all_anywhere l _ (goes_anywhere f (accepted_call f (Some f.epoch) 0 (call.Mend (row_file t r)) v.users) (counted_users f (Some f.epoch) 0 (call.Mend (row_file t r)) v.users)))

mends_tick : (l : ScheduleLine) → ticks l ≡ true → (f : Frame) (ts : List SyncTable) (v : SiteView) → Every (Stands l) (starts_mends_in f ts v).told
mends_tick l k f [] v = tt
mends_tick l k f (t ∷ ts) v = every_append (Stands l) (starts_mend f t v).told (starts_mends_in f ts (starts_mend f t v).view).told one (mends_tick l k f ts (starts_mend f t v).view)
  where
    one : Every (Stands l) (starts_mend f t v).told
    one = elim (t.started && not (has_mend_in v.users t.group)) as (λ x. Every (Stands l) (elim x as (λ (y : Bool). Outcome SiteView) [ true ↦ starts_mend_of f t (first_that (wants_mend v t) t.files) v | false ↦ quiet v ]).told) [
      | true ↦ mend_ticks l k f t (first_that (wants_mend v t) t.files) v
      | false ↦ tt
    ]

mends_of_tick : (l : ScheduleLine) → ticks l ≡ true → (c : Config) (me : ℕ) (e : Option InEpoch) (v : SiteView) → Every (Stands l) (starts_mends_of c me e v).told
mends_of_tick l k c me None v = tt
mends_of_tick l k c me (Some e) v = mends_tick l k (frame_in c me v.boot e) v.tables v

mends_quiet : (l : ScheduleLine) (c : Config) (me : ℕ) (links : Links) (v : SiteView) → EndsQuiet c me links v → Every (Stands l) (starts_mends_of c me (passes_over c me links v).view.epoch (passes_over c me links v).view).told
mends_quiet l c me links v none = subst (Every (Stands l)) (sym none) tt

changed_anywhere : (me boot : ℕ) (e : EpochId) (ws : List WaitingCall) → Every IsAnywhere (changed_records me boot e ws)
changed_anywhere me boot e [] = tt
changed_anywhere me boot e (w ∷ ws) = (tt, changed_anywhere me boot e ws)

leaves_anywhere : (me : ℕ) (o : Option InEpoch) (v : SiteView) → Every IsAnywhere (leaves_of me o v).told
leaves_anywhere me None v = tt
leaves_anywhere me (Some e) v = (tt, changed_anywhere me v.boot e.id v.users.waiting)

-- ---- the end of an event, where joins may stand ----

abbrev pub TellsJoin : Told → Type 0
TellsJoin (Shown (says.Join site e members)) = Unit {0}
TellsJoin _ = ⊥

-- joins may stand at the line
abbrev pub JoinsAt : ScheduleLine → Type 0
JoinsAt l = (t : Told) → TellsJoin t → Stands l t

passes_stand : (l : ScheduleLine) → JoinsAt l → (c : Config) (me : ℕ) (links : Links) (o : Option Round) (v : SiteView) → Every (Stands l) (passes_over_of c me links o v).told
passes_stand l may c me links None v = tt
passes_stand l may c me links (Some r) v = over (unanswered (passed_over links r))
  where
    over : (ss : List ℕ) → Every (Stands l) (decides_if c me links (passed_over links r) ss v).told
    over [] = (may (Shown (says.Join me (passed_over links r).id (chosen_members me v.boot (passed_over links r) (chosen_set me links (passed_over links r))))) tt, tt)
    over (s ∷ ss) = tt

ends_stand : (l : ScheduleLine) → JoinsAt l → (c : Config) (me : ℕ) (links : Links) (v : SiteView) → Every (Stands l) (starts_mends_of c me (passes_over c me links v).view.epoch (passes_over c me links v).view).told → Every (Stands l) (ends_event c me links v).told
ends_stand l may c me links v mends =
    let o : Outcome SiteView = passes_over c me links v in
    every_append (Stands l) o.told (starts_mends_of c me o.view.epoch o.view).told (passes_stand l may c me links v.round v) mends

-- where no round is undecided none is decided
ends_quiet : (l : ScheduleLine) (c : Config) (me : ℕ) (links : Links) (v : SiteView) → v.round ≡ None → EndsQuiet c me links v → Every (Stands l) (ends_event c me links v).told
ends_quiet l c me links v none mends =
    let o : Outcome SiteView = passes_over c me links v in
    every_append (Stands l) o.told (starts_mends_of c me o.view.epoch o.view).told (subst (λ (r : Option Round). Every (Stands l) (passes_over_of c me links r v).told) (sym none) tt) (mends_quiet l c me links v mends)

-- ---- adoptions ----

adopts_stand : (site : ℕ) (f : Frame) (ps : List Pull) (v : SiteView) → Every (Stands (Event (line.Tick site))) (adopts_first f ps v).told
adopts_stand site f [] v = tt
adopts_stand site f (p ∷ ps) v =
    elim (is_ready v p) as (λ t. Every (Stands (Event (line.Tick site))) (elim t as (λ (y : Bool). Outcome SiteView) [ true ↦ elim (fits_own p (copy_of v.store p.file)) as (λ (y : Bool). Outcome SiteView) [ true ↦ adopts_pull f p v | false ↦ adopts_first f ps (without_pull p v) ] | false ↦ adopts_first f ps v ]).told) [
      | true ↦ elim (fits_own p (copy_of v.store p.file)) as (λ t. Every (Stands (Event (line.Tick site))) (elim t as (λ (y : Bool). Outcome SiteView) [ true ↦ adopts_pull f p v | false ↦ adopts_first f ps (without_pull p v) ]).told) [
        | true ↦ (refl, tt)
        | false ↦ adopts_stand site f ps (without_pull p v)
      ]
      | false ↦ adopts_stand site f ps v
    ]

adopts_of_stand : (site : ℕ) (c : Config) (me : ℕ) (e : Option InEpoch) (v : SiteView) → Every (Stands (Event (line.Tick site))) (adopts_of c me e v).told
adopts_of_stand site c me None v = tt
adopts_of_stand site c me (Some e) v = adopts_stand site (frame_in c me v.boot e) v.pulls v

-- ---- what a line has a site do ----

at_decision : (l : ScheduleLine) → ((site : ℕ) (e : EpochId) (m : Members) → stands_at l (says.Join site e m) ≡ true) → JoinsAt l
at_decision l may (Shown (says.Join site e m)) k = may site e m
at_decision l may (Shown _) k = absurd k
at_decision l may _ k = absurd k

begins_anywhere : (me : ℕ) (links : Links) (number : ℕ) (polled : Links) (v : SiteView) → Every IsAnywhere (begins_round me links number polled v).told
begins_anywhere me links number polled v = every_append IsAnywhere ((leaves me v).told ++ Promises me (round_id me number v) (reached links) ∷ []) [] (every_append IsAnywhere (leaves me v).told (Promises me (round_id me number v) (reached links) ∷ []) (leaves_anywhere me v.epoch v) (tt, tt)) tt

parts_anywhere : (me : ℕ) (links : Links) (o : Option InEpoch) (v : SiteView) → Every IsAnywhere (starts_part_of me links o v).told
parts_anywhere me links None v = tt
parts_anywhere me links (Some i) v = begins_anywhere me links (v.promised.number + 1) (boots_where (part_boot me links i.members)) v

calls_anywhere : (f : Frame) (now : Option EpochId) (process : ℕ) (words : Call) (u : Users) → is_mend words ≡ false → Every IsAnywhere (on_call f now process words u).told
calls_anywhere f now process words u user = (user, goes_anywhere f (accepted_call f now process words u) (counted_call f now process words u))

then_stand : (l : ScheduleLine) (xs ys : List Told) → Every IsAnywhere xs → Every (Stands l) ys → Every (Stands l) (xs ++ ys)
then_stand l xs ys h k = every_append (Stands l) xs ys (all_anywhere l xs h) k

-- a call is asked for by a process of users
abbrev pub IsUserCall : views.Event → Type 0
IsUserCall (Calls process words) = (is_mend words ≡ false) × (1 ≤ process)
IsUserCall _ = Unit {0}

-- a line that delivers no packet
pub own_stand : (c : Config) (l : LineWords) (s : ℕ) (e : views.Event) (links : Links) (v : SiteView) (w : World) → LineGives w l s e → IsUserCall e → IsMended v → (e ≡ GivesUp → v.round ≡ None) → Every (Stands (Event l)) (step c s links v e).told
own_stand c (line.Call site process words) s (Calls p x) links v w g user mended up =
    let l : ScheduleLine = Event (line.Call site process words) in
    let o : Outcome SiteView = takes_call c s p x v in
    then_stand l o.told (ends_event c s links o.view).told (calls_anywhere (call_frame c s v.boot v.epoch) (epoch_id v.epoch) p x v.users user.0) (ends_stand l (at_decision l (λ t e m. refl)) c s links o.view (mends_quiet l c s links o.view (call_quiet c s links p x v mended user.0 user.1)))
own_stand c (line.Tick site) s Ticks links v w g user mended up =
    let l : ScheduleLine = Event (line.Tick site) in
    let o : Outcome SiteView = adopts_in c s v in
    let now : SiteView = (passes_over c s links o.view).view in
    every_append (Stands l) o.told (ends_event c s links o.view).told (adopts_of_stand site c s v.epoch v) (ends_stand l (at_decision l (λ t e m. refl)) c s links o.view (mends_of_tick l refl c s now.epoch now))
own_stand c (line.Part site) s Parts links v w g user mended up =
    let l : ScheduleLine = Event (line.Part site) in
    let o : Outcome SiteView = starts_part s links v in
    then_stand l o.told (ends_event c s links o.view).told (parts_anywhere s links v.epoch v) (ends_stand l (at_decision l (λ t e m. refl)) c s links o.view (mends_quiet l c s links o.view (ends_outside c s links o.view (parted_outside s links v))))
own_stand c (line.Merge site) s Merges links v w g user mended up =
    let l : ScheduleLine = Event (line.Merge site) in
    let o : Outcome SiteView = starts_merge s links v in
    then_stand l o.told (ends_event c s links o.view).told (begins_anywhere s links (v.promised.number + 1) (boots_where (merge_boot s links)) v) (ends_stand l (at_decision l (λ t e m. refl)) c s links o.view (mends_quiet l c s links o.view (ends_outside c s links o.view (begun_outside s links (v.promised.number + 1) (boots_where (merge_boot s links)) v))))
own_stand c (line.GiveUp site) s GivesUp links v w g user mended up =
    let l : ScheduleLine = Event (line.GiveUp site) in
    let o : Outcome SiteView = leaves s v in
    then_stand l o.told (ends_event c s links o.view).told (leaves_anywhere s v.epoch v) (ends_quiet l c s links o.view (round_left v.epoch) (ends_outside c s links o.view (left_outside s v v.epoch refl)))
  where
    round_left : (o : Option InEpoch) → (leaves_of s o v).view.round ≡ None
    round_left None = up refl
    round_left (Some i) = up refl
own_stand c _ s e links v w g user mended up = absurd g
