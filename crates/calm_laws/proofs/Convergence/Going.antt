-- What an event leaves of the pull of a file at rest, which is over the copy that its site has: it goes on over that copy, and what was whole
-- stays so, or the version was adopted. And what it leaves of instances and of mends.
use Rattle.std.proofs.Common.{Bool, List, None, Option, Some, [], ap, false, inl, inr, refl, subst, sym, true, ℕ, ◌&&◌, ◌==◌, ◌∙◌, ◌≡◌, ◌⊎◌}
use Rattle.calm_laws.proofs.HeldOperation.{form_view}
use Rattle.rest_laws.proofs.Fits.CalmAskingAsking.{w}
use Rattle.rest_laws.proofs.TableNoting.{ascends_found}
use Rattle.calm_laws.specs.Carrying.{frame_of}
use Rattle.calm_laws.proofs.Convergence.Adopting.{StaysOrLow, tries_low, tries_stay}
use Rattle.calm_laws.proofs.Convergence.Coming.{Ends, ends_keep}
use Rattle.calm_laws.proofs.Convergence.Commits.{MayCommitOf, close_commits, op_commits}
use Rattle.calm_laws.proofs.Convergence.FreeClosing.{WasOpen, closing_open, inside_was, tick_instances, tries_instances}
use Rattle.calm_laws.proofs.Convergence.FreeUsers.{IsWanted, Mends, end_waited, inside_waited, tick_users, tries_users, wants_same}
use Rattle.calm_laws.proofs.Convergence.Happening.{Before, By, Happened, IsTaken}
use Rattle.calm_laws.proofs.Convergence.Resting.{last_offer}
use Rattle.calm_laws.proofs.Convergence.Taking.{GoesOn, delta_goes, notify_goes, page_goes}
use Rattle.calm_laws.proofs.Convergence.Vectors.{above_is, copy_alike, number_test}
use Rattle.calm_laws.specs.Convergence.Converging.{IsClosing}
use Rattle.calm_laws.specs.Convergence.Offers.{Offer, is_above, offer_of}
use Rattle.dir_format.specs.Entries.{nothing_seen}
use Rattle.run_laws.proofs.Epochs.Forms.{framed_formless}
use Rattle.run_laws.specs.Epochs.Forming.{FormlessSite}
use Rattle.locus_ids.specs.declared.config.Config.{Config}
use Rattle.locus_ids.specs.declared.ids.FileId.{FileId}
use Rattle.locus_ids.specs.declared.ids.Mode.{Mode}
use Rattle.locus_ids.specs.declared.ids.Mode.TheVariants as mode
use Rattle.locus_ids.specs.declared.ids.Stamp.{Stamp}
use Rattle.calm_laws.proofs.Pulls.Ascending.{delta_keeps, notify_keeps, page_keeps}
use Rattle.role_steps.proofs.Rows.{row_other}
use Rattle.role_steps.proofs.of_plain_facts.Numbers.{equal}
use Rattle.role_steps.proofs.of_plain_facts.Options.{some_same}
use Rattle.role_steps.proofs.of_plain_facts.Tests.{true_false}
use Rattle.role_steps.specs.Adoption.{adopts_first, is_above_own, table_group}
use Rattle.role_steps.specs.Epochs.{frame_in}
use Rattle.role_steps.specs.Mends.{mending, row_file}
use Rattle.role_steps.specs.Opens.{on_opened}
use Rattle.role_steps.specs.Operations.{nothing_to_mend, on_op}
use Rattle.role_steps.specs.Pulling.{is_complete, is_over, on_delta, on_notify, on_page, pages_in, pull_key, pull_of}
use Rattle.role_steps.specs.Reports.{on_closed, on_have, on_look, on_open, on_report}
use Rattle.role_steps.specs.Storage.{StoreRequest, copy_key, copy_made, copy_of, ends_at, instance_of, next_stamp, next_vector, on_close, on_closed_ok_of, on_open_ss_of, opens, opens_made, own_ino}
use Rattle.role_steps.specs.Tables.{first_that, row}
use Rattle.role_steps.specs.Versions.{is_below}
use Rattle.role_steps.specs.Views.{Calls, Event, Frame, GivesUp, Merges, Outcome, Parts, Receives, SiteView, Store, Ticks, Users, file_key}
use Rattle.role_steps.specs.declared.copies.FileCopy.{FileCopy}
use Rattle.role_steps.specs.declared.instances.Instance.{Instance}
use Rattle.role_steps.specs.declared.instances.Stage.{Stage}
use Rattle.role_steps.specs.declared.instances.Stage.TheVariants as stage
use Rattle.role_steps.specs.declared.pulls.Pull.{Pull}
use Rattle.role_steps.specs.declared.rounds.InEpoch.{InEpoch}
use Rattle.role_steps.specs.declared.synchronizing.SyncTable.{SyncTable}
use Rattle.role_steps.specs.declared.synchronizing.VersionRow.{VersionRow}
use Rattle.the_run.specs.Kept.{Among}
use Rattle.the_run.specs.Steps.{adopts_in, adopts_of, at_table_of, ends_event, from_user, group_of, is_opened_in, takes_inside, tries_at, with_pulls}
use Rattle.trace_book.specs.declared.operation.Op.TheVariants as op
use Rattle.tree_laws.specs.Stores.{Ascends}
use Rattle.wire_messages.specs.declared.body.Body.{Body}
use Rattle.wire_messages.specs.declared.body.Body.TheVariants as body
use Rattle.wire_messages.specs.declared.packet.Packet.{Packet}

-- the file's pull is of the version, over the copy that the site has
pub record PullsOver (v : SiteView) (file : FileId) (ver : VersionRow) : Type 0 where
  pub pull : Pull
  pub found : pull_of v.pulls file ≡ Some pull
  pub offer : offer_of pull ≡ last_offer file ver
  pub over : is_over (copy_of v.store file) pull.base ≡ true

-- the copy isn't below it any more, or it is pulled so still; and if its pull was whole, that one is pulled still
pub record PullsStill (v : SiteView) (file : FileId) (ver : VersionRow) (old : Pull) : Type 0 where
  pub pulls : PullsOver v file ver
  pub whole : is_complete old ≡ true → pulls.pull ≡ old

abbrev pub GoesOrLow : SiteView → FileId → VersionRow → Pull → Type 0
GoesOrLow v file ver old = (is_above ver.vector (copy_of v.store file) ≡ false) ⊎ PullsStill v file ver old

-- ---- one pull of each file ----

one_pull : (ps : List Pull) (file : FileId) (p : Pull) → Ascends pull_key ps → pull_of ps file ≡ Some p → (q : Pull) → Among q ps → pull_key q ≡ file_key file → q ≡ p
one_pull ps file p up found q a key = some_same q p (sym (ascends_found pull_key ps q up a) ∙ (ap (λ (k : ℕ). row pull_key k ps) key ∙ found))

-- ---- a try ----

-- the pulls as they are taken are tried over the store
tried_goes : (f : Frame) (x : SiteView) (file : FileId) (ver : VersionRow) (old : Pull) → Ascends pull_key x.pulls → (h : PullsOver x file ver) → (is_complete old ≡ true → h.pull ≡ old) → GoesOrLow (adopts_first f x.pulls x).view file ver old
tried_goes f x file ver old up h same = by_fit (is_above_own h.pull (copy_of x.store file)) refl
  where
    vector : h.pull.vector ≡ ver.vector
    vector = ap (λ (o : Offer). o.vector) h.offer

    is_file : h.pull.file ≡ file
    is_file = ap (λ (o : Offer). o.file) h.offer

    over : StaysOrLow file h.pull x (adopts_first f x.pulls x).view → GoesOrLow (adopts_first f x.pulls x).view file ver old
    over (inl low) = inl (ap (λ (y : List ℕ). is_above y (copy_of (adopts_first f x.pulls x).view.store file)) (sym vector) ∙ low)
    over (inr k) = inr (record { pulls = record { pull = h.pull; found = k.0; offer = h.offer; over = ap (λ (o : Option FileCopy). is_over o h.pull.base) k.1 ∙ h.over }; whole = same })

    both : (a b : Bool) → a ≡ true → b ≡ true → (a && b) ≡ true
    both true true p q = refl
    both true false p q = absurd (true_false (sym q))
    both false b p q = absurd (true_false (sym p))

    -- where the version isn't above the copy, the copy only rises
    by_fit : (b : Bool) → is_above_own h.pull (copy_of x.store file) ≡ b → GoesOrLow (adopts_first f x.pulls x).view file ver old
    by_fit true e = over (tries_stay f x.pulls x file h.pull is_file (one_pull x.pulls file h.pull up h.found) h.found (both (is_over (copy_of x.store file) h.pull.base) (is_above_own h.pull (copy_of x.store file)) h.over e))
    by_fit false e = inl (tries_low f x.pulls x file ver.vector (ap (λ (y : List ℕ). is_above y (copy_of x.store file)) (sym vector) ∙ (sym (above_is h.pull (copy_of x.store file)) ∙ e)))

-- ---- handlers ----

-- what is named by a packet that comes isn't above the version
abbrev pub NamesLow : Body → FileId → VersionRow → Type 0
NamesLow (body.Notify about what sites size stamp vector holder) file ver = file_key about ≡ file_key file → is_below ver.vector vector ≡ false
NamesLow _ file ver = Unit {0}

-- the handler leaves its copy, and its pull goes on
pub record Handled (v u : SiteView) (file : FileId) (ver : VersionRow) (old : Pull) : Type 0 where
  pub pulls : PullsOver u file ver
  pub whole : is_complete old ≡ true → pulls.pull ≡ old
  pub ascend : Ascends pull_key u.pulls

still_handled : (v u : SiteView) (file : FileId) (ver : VersionRow) → (h : PullsOver v file ver) → Ascends pull_key v.pulls → u.pulls ≡ v.pulls → copy_of u.store file ≡ copy_of v.store file → Handled v u file ver h.pull
still_handled v u file ver h up pulls copy = record {
  pulls = record { pull = h.pull; found = ap (λ (ps : List Pull). pull_of ps file) pulls ∙ h.found; offer = h.offer; over = ap (λ (o : Option FileCopy). is_over o h.pull.base) copy ∙ h.over };
  whole = λ w. refl;
  ascend = subst (λ (ps : List Pull). Ascends pull_key ps) (sym pulls) up;
}

taken_handled : (v : SiteView) (file : FileId) (ver : VersionRow) (ps : List Pull) → (h : PullsOver v file ver) → Ascends pull_key ps → GoesOn file h.pull ps → Handled v (with_pulls v ps) file ver h.pull
taken_handled v file ver ps h up g = record {
  pulls = record { pull = g.now; found = g.found; offer = g.goes.offer ∙ h.offer; over = ap (λ (b : Option Stamp). is_over (copy_of v.store file) b) g.goes.base ∙ h.over };
  whole = g.goes.whole;
  ascend = up;
}

-- no instance of the file runs here
abbrev pub NoneRuns : SiteView → FileId → Type 0
NoneRuns v file = (i : Instance) → Among i v.store.instances → file_key i.file ≡ file_key file → i.stage ≡ stage.Running → ⊥

commit_copy : (f : Frame) (s : Store) (o : Outcome Store) (file : FileId) → ((i : Instance) → Among i s.instances → file_key i.file ≡ file_key file → i.stage ≡ stage.Running → ⊥) → MayCommitOf f s o → copy_of o.view file ≡ copy_of s file
commit_copy f s o file none (inl same) = ap (λ (xs : List FileCopy). row copy_key (file_key file) xs) same
commit_copy f s o file none (inr k) = ap (λ (xs : List FileCopy). row copy_key (file_key file) xs) k.copies ∙ row_other copy_key (copy_made k.instance (next_vector f k.instance) (next_stamp f (next_vector f k.instance))) (file_key file) s.copies (over (number_test (file_key k.instance.file) (file_key file)))
  where
    over : ((file_key k.instance.file == file_key file) ≡ true) ⊎ ((file_key k.instance.file == file_key file) ≡ false) → (file_key k.instance.file == file_key file) ≡ false
    over (inr ne) = ne
    over (inl e) = absurd (none k.instance k.there (equal (file_key k.instance.file) (file_key file) e) k.runs)

abbrev SameCopies : Store → Outcome Store → Type 0
SameCopies s o = o.view.copies ≡ s.copies

opens_copies : (f : Frame) (r : StoreRequest) (m : Mode) (s : Store) → SameCopies s (opens f r m s)
opens_copies f r mode.Make s = by_number (own_ino s r.file.group f.me)
  where
    by_number : (o : Option ℕ) → SameCopies s (opens_made f r o s)
    by_number None = refl
    by_number (Some ino) = refl
opens_copies f r _ s = refl

open_ss_copies : (f : Frame) (r : StoreRequest) (o : Option Instance) (s : Store) → SameCopies s (on_open_ss_of f r o s)
open_ss_copies f r None s = opens_copies f r r.mode s
open_ss_copies f r (Some i) s = refl

closed_ok_copies : (f : Frame) (o : Option Instance) (s : Store) → SameCopies s (on_closed_ok_of f o s)
closed_ok_copies f None s = refl
closed_ok_copies f (Some i) s = by_stage i.stage
  where
    by_stage : (g : Stage) → SameCopies s (ends_at f i g s)
    by_stage (stage.Closing made a) = refl
    by_stage _ = refl

-- where copies and pulls stay
pub record Keeps (v u : SiteView) : Type 0 where
  pub copies : u.store.copies ≡ v.store.copies
  pub pulls : u.pulls ≡ v.pulls

table_keeps : (g : SyncTable → Outcome SyncTable) (o : Option SyncTable) (v : SiteView) → Keeps v (at_table_of g o v).view
table_keeps g None v = record { copies = refl; pulls = refl }
table_keeps g (Some t) v = record { copies = refl; pulls = refl }

-- a packet that isn't about pulls, and doesn't let an instance commit
abbrev pub IsOther : Body → Type 0
IsOther (body.Notify about what sites size stamp vector holder) = ⊥
IsOther (body.Page about stamp page bytes) = ⊥
IsOther (body.Delta about wanted pages) = ⊥
IsOther (body.Op serial n o seen) = ⊥
IsOther (body.ReadHeld serial n at len) = ⊥
IsOther (body.Close serial) = ⊥
IsOther _ = Unit {0}

pub other_keeps : (f : Frame) (from : ℕ) (b : Body) (v : SiteView) → IsOther b → Keeps v (takes_inside f from b v).view
other_keeps f from (body.Report group copies) v k = table_keeps (on_report f from copies) (row table_group group v.tables) v
other_keeps f from (body.Open serial call process request about how) v k = table_keeps (on_open f from (record { serial = serial; call = call; process = process; request = request; file = about; how = how })) (row table_group about.group v.tables) v
other_keeps f from (body.OpenSs inst about m set kind base vector parents) v k =
    let r : StoreRequest = record { inst = inst; file = about; mode = m; set = set; kind = kind; base = base; vector = vector; parents = parents } in
    record { copies = open_ss_copies f r (instance_of v.store inst) v.store; pulls = refl }
other_keeps f from (body.Opened inst answer) v k = table_keeps (on_opened f inst answer) (first_that (is_opened_in inst) v.tables) v
other_keeps f from (body.Closed inst made) v k = table_keeps (on_closed f from inst made) (first_that (is_opened_in inst) v.tables) v
other_keeps f from (body.ClosedOk inst) v k = record { copies = closed_ok_copies f (instance_of v.store inst) v.store; pulls = refl }
other_keeps f from (body.Look call process request take about what) v k = table_keeps (on_look f from (record { call = call; process = process; request = request; take = take; file = about; what = what })) (row table_group about.group v.tables) v
other_keeps f from (body.Have about stamp) v k = table_keeps (on_have from about stamp) (row table_group about.group v.tables) v
other_keeps f from (body.Notify about what sites size stamp vector holder) v k = absurd k
other_keeps f from (body.Page about stamp page bytes) v k = absurd k
other_keeps f from (body.Delta about wanted pages) v k = absurd k
other_keeps f from (body.Op serial n o seen) v k = absurd k
other_keeps f from (body.ReadHeld serial n at len) v k = absurd k
other_keeps f from (body.Close serial) v k = absurd k
other_keeps f from _ v k = record { copies = refl; pulls = refl }

-- ---- a packet of the epoch ----

module _ (f : Frame) (from : ℕ) (v : SiteView) (file : FileId) (ver : VersionRow) (h : PullsOver v file ver) (up : Ascends pull_key v.pulls) (none : NoneRuns v file) where
  abbrev Is : Body → Type 0
  Is b = Handled v (takes_inside f from b v).view file ver h.pull

  other_is : (b : Body) → IsOther b → Is b
  other_is b k = (let q : Keeps v (takes_inside f from b v).view = other_keeps f from b v k in still_handled v (takes_inside f from b v).view file ver h up q.pulls (ap (λ (xs : List FileCopy). row copy_key (file_key file) xs) q.copies))

  pub inside_handled : (b : Body) → NamesLow b file ver → Is b
  inside_handled (body.Notify about what sites size stamp vector holder) low =
      let n : Pull = record { file = about; kind = what; set = sites; size = size; stamp = stamp; vector = vector; holder = holder; base = None; wanted = None; content = [] } in
      taken_handled v file ver (on_notify f from (copy_of v.store about) n v.pulls).view h (notify_keeps f from (copy_of v.store about) n v.pulls up)
      (notify_goes f from (copy_of v.store about) n v.pulls file h.pull h.found (λ key. (ap (λ (o : Option FileCopy). is_over o h.pull.base) (copy_alike v.store about file key) ∙ h.over, ap (λ (o : Offer). is_below o.vector vector) h.offer ∙ low key)))
  inside_handled (body.Page about stamp page bytes) low =
      taken_handled v file ver (on_page f about stamp page bytes v.pulls).view h (page_keeps f stamp page bytes (pull_of v.pulls about) v.pulls up) (page_goes f stamp page bytes about v.pulls file h.pull h.found)
  inside_handled (body.Delta about wanted pages) low =
      taken_handled v file ver (on_delta f (copy_of v.store about) about wanted pages v.pulls).view h (delta_keeps f (pages_in (copy_of v.store about)) wanted pages (pull_of v.pulls about) v.pulls up)
      (delta_goes f (pages_in (copy_of v.store about)) wanted pages about v.pulls file h.pull h.found)
  inside_handled (body.Op serial n o seen) low = still_handled v (takes_inside f from (body.Op serial n o seen) v).view file ver h up refl
      (commit_copy f v.store (on_op f (mending v (group_of (instance_of v.store (from_user from serial)))) (from_user from serial) n o seen v.store) file none (op_commits f (mending v (group_of (instance_of v.store (from_user from serial)))) (from_user from serial) n o seen v.store))
  inside_handled (body.ReadHeld serial n at len) low = still_handled v (takes_inside f from (body.ReadHeld serial n at len) v).view file ver h up refl
      (ap (λ (s : Store). copy_of s file) (form_view (instance_of v.store (from_user from serial)) (on_op f nothing_to_mend (from_user from serial) n (op.Read at len) nothing_seen v.store))
      ∙ commit_copy f v.store (on_op f nothing_to_mend (from_user from serial) n (op.Read at len) nothing_seen v.store) file none (op_commits f nothing_to_mend (from_user from serial) n (op.Read at len) nothing_seen v.store))
  inside_handled (body.Close serial) low = still_handled v (takes_inside f from (body.Close serial) v).view file ver h up refl (commit_copy f v.store (on_close f (from_user from serial) v.store) file none (close_commits f (from_user from serial) v.store))
  inside_handled b low = other_is b tt

-- ---- the event ----

pub tries_by : (c : Config) (e : InEpoch) (s : ℕ) (b : Body) (x : SiteView) (file : FileId) (ver : VersionRow) (old : Pull) → x.epoch ≡ Some e → Handled x x file ver old → GoesOrLow (tries_at c s b x).view file ver old
tries_by c e s b x file ver old inside h = by_body b
  where
    quietly : GoesOrLow x file ver old
    quietly = inr (record { pulls = h.pulls; whole = h.whole })

    adopts_so : GoesOrLow (adopts_in c s x).view file ver old
    adopts_so = subst (λ (o : Option InEpoch). GoesOrLow (adopts_of c s o x).view file ver old) (sym inside) (tried_goes (frame_in c s x.boot e) x file ver old h.ascend h.pulls h.whole)

    by_body : (q : Body) → GoesOrLow (tries_at c s q x).view file ver old
    by_body (body.Notify about what sites size stamp vector holder) = adopts_so
    by_body (body.Page about stamp page bytes) = adopts_so
    by_body (body.Delta about wanted pages) = adopts_so
    by_body _ = quietly

-- after each event of the member the pull goes on, or the version is there
pub goes_on_so : (c : Config) (e : InEpoch) (s : ℕ) (v u : SiteView) (ev : Event) (file : FileId) (ver : VersionRow) → Before c e s v → Happened c e s v u ev → ((p : Packet) → ev ≡ Receives p → p.epoch ≡ e.id → NamesLow p.body file ver) → NoneRuns v file → Ascends pull_key v.pulls → (h : PullsOver v file ver) → GoesOrLow u file ver h.pull
goes_on_so c e s v u ev file ver before k low none up h = ended (by_event ev k.by low)
  where
    ends : Ends k.last (ends_event c s k.links k.last).view
    ends = ends_keep c s k.links k.last e k.round k.epoch

    ended : GoesOrLow k.last file ver h.pull → GoesOrLow u file ver h.pull
    ended (inl q) = inl (ap (λ (x : SiteView). is_above ver.vector (copy_of x.store file)) k.ended ∙ (ap (λ (x : Store). is_above ver.vector (copy_of x file)) ends.store ∙ q))
    ended (inr q) = inr (record {
      pulls = record {
        pull = q.pulls.pull;
        found = ap (λ (x : SiteView). pull_of x.pulls file) k.ended ∙ (ap (λ (ps : List Pull). pull_of ps file) ends.pulls ∙ q.pulls.found);
        offer = q.pulls.offer;
        over = ap (λ (x : SiteView). is_over (copy_of x.store file) q.pulls.pull.base) k.ended ∙ (ap (λ (x : Store). is_over (copy_of x file) q.pulls.pull.base) ends.store ∙ q.pulls.over);
      };
      whole = q.whole;
    })

    still : (store : Store) (pulls : List Pull) → k.last.store ≡ store → k.last.pulls ≡ pulls → store ≡ v.store → pulls ≡ v.pulls → GoesOrLow k.last file ver h.pull
    still store pulls a b x y = inr (record {
      pulls = record { pull = h.pull; found = ap (λ (ps : List Pull). pull_of ps file) (b ∙ y) ∙ h.found; offer = h.offer; over = ap (λ (z : Store). is_over (copy_of z file) h.pull.base) (a ∙ x) ∙ h.over };
      whole = λ w. refl;
    })

    taken : (p : Packet) → NamesLow p.body file ver → IsTaken c e s v k.last p → GoesOrLow k.last file ver h.pull
    taken p names t = subst (λ (x : SiteView). GoesOrLow x file ver h.pull) (sym t.is) (tries_by c e s p.body mid.view file ver h.pull (formless.epoch ∙ before.epoch) (record { pulls = done.pulls; whole = done.whole; ascend = done.ascend }))
      where
        mid : Outcome SiteView
        mid = takes_inside (frame_of c e s) p.from p.body v

        done : Handled v mid.view file ver h.pull
        done = inside_handled (frame_of c e s) p.from v file ver h up none p.body names

        formless : FormlessSite v mid
        formless = subst (λ (i : ℕ). FormlessSite v (takes_inside (frame_in c s i e) p.from p.body v)) before.boot (framed_formless c s p (Some e) v before.formless)

    by_event : (z : Event) → By c e s v k.last z → ((p : Packet) → z ≡ Receives p → p.epoch ≡ e.id → NamesLow p.body file ver) → GoesOrLow k.last file ver h.pull
    by_event (Receives p) (inl t) names = taken p (names p refl t.epoch) t
    by_event (Receives p) (inr q) names = still v.store v.pulls q.store q.pulls refl refl
    by_event Ticks is names = subst (λ (x : SiteView). GoesOrLow x file ver h.pull) (sym is)
        (subst (λ (o : Option InEpoch). GoesOrLow (adopts_of c s o v).view file ver h.pull) (sym before.epoch) (tried_goes (frame_in c s v.boot e) v file ver h.pull up h (λ w. refl)))
    by_event (Calls process words) q names = still v.store v.pulls q.store q.pulls refl refl
    by_event Parts q names = absurd q
    by_event Merges q names = absurd q
    by_event GivesUp q names = absurd q

-- ---- instances that close, and mends ----

-- an instance that the site is closing after the event was open there before it
pub closing_was : (c : Config) (e : InEpoch) (s : ℕ) (v u : SiteView) (ev : Event) → Happened c e s v u ev → (i : Instance) → Among i u.store.instances → IsClosing i.stage → WasOpen v.store i.file
closing_was c e s v u ev k i a closes = by_event ev k.by (subst (λ (st : Store). Among i st.instances) (ap (λ (y : SiteView). y.store) k.ended ∙ ends.store) a)
  where
    ends : Ends k.last (ends_event c s k.links k.last).view
    ends = ends_keep c s k.links k.last e k.round k.epoch

    itself : Among i v.store.instances → WasOpen v.store i.file
    itself b = record { instance = i; there = b; same = refl; opened = closing_open i.stage closes }

    by_event : (z : Event) → By c e s v k.last z → Among i k.last.store.instances → WasOpen v.store i.file
    by_event (Receives p) (inl t) b = inside_was (frame_of c e s) p.from p.body v i (subst (λ (xs : List Instance). Among i xs) (ap (λ (y : SiteView). y.store.instances) t.is ∙ tries_instances c s p.body (takes_inside (frame_of c e s) p.from p.body v).view) b) closes
    by_event (Receives p) (inr q) b = itself (subst (λ (st : Store). Among i st.instances) q.store b)
    by_event Ticks is b = itself (subst (λ (xs : List Instance). Among i xs) (ap (λ (y : SiteView). y.store.instances) is ∙ tick_instances c s v) b)
    by_event (Calls process words) q b = itself (subst (λ (st : Store). Among i st.instances) q.store b)
    by_event Parts q b = absurd q
    by_event Merges q b = absurd q
    by_event GivesUp q b = absurd q

-- a mend that waits after the event waited before it, or its tables want it
pub mends_were : (c : Config) (e : InEpoch) (s : ℕ) (v u : SiteView) (ev : Event) (file : FileId) → Happened c e s v u ev → Mends file u.users.waiting → Mends file v.users.waiting ⊎ IsWanted u u.tables file
mends_were c e s v u ev file k m = over (end_waited c s k.links k.last e file k.round k.epoch (subst (λ (z : SiteView). Mends file z.users.waiting) k.ended m))
  where
    ends : Ends k.last (ends_event c s k.links k.last).view
    ends = ends_keep c s k.links k.last e k.round k.epoch

    by_event : (z : Event) → By c e s v k.last z → Mends file k.last.users.waiting → Mends file v.users.waiting
    by_event (Receives p) (inl t) q = inside_waited file (frame_of c e s) p.from p.body v
        (subst (λ (x : Users). Mends file x.waiting) (tries_users c s p.body (takes_inside (frame_of c e s) p.from p.body v).view) (subst (λ (y : SiteView). Mends file y.users.waiting) t.is q))
    by_event (Receives p) (inr t) q = subst (λ (x : Users). Mends file x.waiting) t.users q
    by_event Ticks is q = subst (λ (x : Users). Mends file x.waiting) (ap (λ (y : SiteView). y.users) is ∙ tick_users c s v) q
    by_event (Calls process words) t q = t.waited file q
    by_event Parts t q = absurd t
    by_event Merges t q = absurd t
    by_event GivesUp t q = absurd t

    over : Mends file k.last.users.waiting ⊎ IsWanted k.last k.last.tables file → Mends file v.users.waiting ⊎ IsWanted u u.tables file
    over (inl q) = inl (by_event ev k.by q)
    over (inr q) = inr (record {
      table = q.table;
      there = subst (λ (ts : List SyncTable). Among q.table ts) (sym (ap (λ (z : SiteView). z.tables) k.ended ∙ ends.tables)) q.there;
      file_known = q.file_known;
      is_row = q.is_row;
      same = q.same;
      wants = wants_same k.last u q.table (row_file q.table q.file_known) q.file_known.kept (ap (λ (z : SiteView). z.store) k.ended ∙ ends.store) ∙ q.wants;
    })
