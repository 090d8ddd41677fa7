-- The mends that are wanted start: each is accepted as it may be, and asks its open; all else that the site has stays.
use Rattle.std.proofs.Common.{◌≡◌, ℕ, ◌*◌, ◌<◌, ◌≤◌, ◌==◌, Bool, true, false, not, cond, ◌&&◌, List, [], ◌∷◌, ◌++◌, Option, Some, None, refl, sym, ◌∙◌, ap, subst, arith, inl, inr}
use Rattle.role_steps.proofs.of_plain_facts.Numbers.{equal_self}
use Rattle.role_steps.proofs.of_plain_facts.Options.{some_same}
use Rattle.role_steps.proofs.of_plain_facts.Tests.{true_false}
use Rattle.locus_ids.specs.declared.config.Config.{Config}
use Rattle.locus_ids.specs.declared.ids.CallId.{CallId}
use Rattle.trace_book.specs.Same.{same_call}
use Rattle.trace_book.specs.declared.call.Call.{Call}
use Rattle.trace_book.specs.declared.call.Call.TheVariants as call
use Rattle.trace_book.specs.declared.record.Record.{Record}
use Rattle.trace_book.specs.declared.record.Record.TheVariants as says
use Rattle.role_steps.specs.Mends.{has_mend_in, is_mend_in, mends_in, row_file, starts_mend, starts_mend_of, starts_mends, starts_mends_in, wants_mend}
use Rattle.role_steps.specs.Own.{Every}
use Rattle.role_steps.specs.Requests.{waiting_key, waiting_of, waiting_span}
use Rattle.role_steps.specs.Tables.{first_that}
use Rattle.role_steps.specs.Using.{on_call}
use Rattle.role_steps.specs.Views.{DiskWrite, Frame, Outcome, SiteView, Told, Shown, first_written, joined_to, quiet, within}
use Rattle.role_steps.specs.declared.synchronizing.FileRow.{FileRow}
use Rattle.role_steps.specs.declared.synchronizing.SyncTable.{SyncTable}
use Rattle.role_steps.specs.declared.users.WaitingCall.{WaitingCall}
use Rattle.role_steps.proofs.Sending.{every_append}
use Rattle.the_run.specs.Kept.{Among}
use Rattle.the_run.specs.Worlds.{Line, told_onto}
use Rattle.tree_model.specs.declared.accepted.Waiting.{Waiting}
use Rattle.tree_model.specs.Calls.{accepted_as, call_named}
use Rattle.tree_model.specs.Packs.{sync_site}
use Rattle.tree_laws.specs.Doing.{Fine, IsOfUsers, NoWrite, WrittenFact}
use Rattle.tree_laws.specs.Packets.{PacketFact}
use Rattle.tree_laws.specs.Printed.{entries, onto_entries}
use Rattle.tree_laws.specs.Users.{WaitingFact}
use Rattle.store_laws.specs.Users.Turning.{it}
use Rattle.store_laws.proofs.Users.Accepting.{call_fine}
use Rattle.store_laws.proofs.Users.Tabled.{every_among}
use Rattle.store_laws.specs.OneTree.Places.{InsideFact}
use Rattle.store_laws.specs.OneTree.Rest.{AllRest, EachRest, Past, RangeCall, RestTold}
use Rattle.store_laws.specs.OneTree.Roles.{CallsFine, Ready}
use Rattle.store_laws.proofs.OneTree.Composing.{onto_append, packets_onto, past_onto, rest_first, rest_last, told_append}
use Rattle.store_laws.proofs.OneTree.Staying.{stays}
use Rattle.store_laws.specs.OneTree.UserStepRests.{UserRests}
use Rattle.store_laws.proofs.OneTree.UserStepGroups.{synced_low}
use Rattle.store_laws.proofs.OneTree.UserStepResting.{calls_fine, staying}
use Rattle.rest_laws.proofs.MendStepBeside.{users_beside}
use Rattle.rest_laws.proofs.MendStepRows.{any_among}
use Rattle.rest_laws.proofs.MendStepWanted.{may_mend_it, synced}

-- ---- calls of process 0 are mends ----

-- process 0 has no other call
abbrev IsKeyed : ℕ → Call → Type 0
IsKeyed process (call.Mend file) = Unit {0}
IsKeyed process _ = 1 ≤ process

keyed_call : (c : Config) (s process : ℕ) (words : Call) → RangeCall c s process words → IsKeyed process words
keyed_call c s process (call.Mend file) k = tt
keyed_call c s process _ k = k.process_low

keyed : (c : Config) (t : List Line) → EachRest c t → (d : CallId) (w : Waiting) → call_named (entries t) d ≡ Some w → IsKeyed w.process w.words
keyed c [] h d w e = absurd (none w e)
  where
    none : (w : Waiting) → ◌≡◌ {A = Option Waiting} None (Some w) → ⊥
    none w e = cc
keyed c (x ∷ older) h d w e = over x.told h.0 (keyed c older h.1 d w) e
  where
    of : (r : Record) → RestTold c older (Shown r) → (call_named (entries older) d ≡ Some w → IsKeyed w.process w.words) → call_named (record { line = x.number; what = r } ∷ entries older) d ≡ Some w → IsKeyed w.process w.words
    of (says.Accept s process new words) rest later k = at (same_call new d) k
      where
        at : (b : Bool) → cond b (Some (accepted_as (entries older) s process new words)) (call_named (entries older) d) ≡ Some w → IsKeyed w.process w.words
        at true m = subst (λ (y : Waiting). IsKeyed y.process y.words) (some_same (accepted_as (entries older) s process new words) w m) (keyed_call c s process words rest.range.0)
        at false m = later m
    of r rest later k = later k

    over : (y : Told) → RestTold c older y → (call_named (entries older) d ≡ Some w → IsKeyed w.process w.words) → call_named (onto_entries x.number y (entries older)) d ≡ Some w → IsKeyed w.process w.words
    over (Shown r) rest later k = of r rest later k
    over _ rest later k = later k

-- ---- one mend ----

module _ (c : Config) (rests : UserRests c) (n : ℕ) (t : List Line) (f : Frame) (v : SiteView) (past : Past c t) (k : InsideFact c f t v) (tab : SyncTable) (here : Among tab v.tables) where
  -- no call that waits has the key of the mend
  apart : tab.started ≡ true → has_mend_in v.users tab.group ≡ false → (r : FileRow) → first_that (wants_mend v tab) tab.files ≡ Some r → Every (λ (w : WaitingCall). waiting_key w ≡ waiting_of 0 (call.Mend (row_file tab r)) → ⊥) v.users.waiting
  apart started alone r found = each v.users.waiting (λ w m. m)
    where
      low : tab.group < 4
      low = synced_low c f.members tab.group f.me rests.few (ap (sync_site c tab.group) (sym k.frame.members_are) ∙ synced c t f v past k tab here started alone r found)

      above : (p g : ℕ) → 1 ≤ p → g < 4 → waiting_span * p ≡ g → ⊥
      above p g one lt e = omega (arith, one, lt, e)

      one_key : (w : WaitingCall) → Among w v.users.waiting → (words : Call) → w.words ≡ words → IsKeyed w.process words → waiting_of w.process words ≡ tab.group → ⊥
      one_key w m (call.Mend file) e q same = true_false (sym (any_among (is_mend_in tab.group) v.users.waiting w m (ap (mends_in tab.group) e ∙ subst (λ (g : ℕ). (file.group == g) ≡ true) same (equal_self file.group))) ∙ alone)
      one_key w m _ e q same = above w.process tab.group q low same

      keyed_row : (w : WaitingCall) → Among w v.users.waiting → IsKeyed w.process w.words
      keyed_row w m = subst (λ (y : Waiting). IsKeyed y.process y.words) fact.caller_is (keyed c t past.rest.each (it f w) fact.caller fact.named)
        where
          fact : WaitingFact c t f w
          fact = every_among (WaitingFact c t f) w v.users.waiting m k.users.inside.inside.calls

      each : (ws : List WaitingCall) → ((w : WaitingCall) → Among w ws → Among w v.users.waiting) → Every (λ (w : WaitingCall). waiting_key w ≡ waiting_of 0 (call.Mend (row_file tab r)) → ⊥) ws
      each [] within = tt
      each (w ∷ ws) within = (one_key w (within w (inl refl)) w.words refl (keyed_row w (within w (inl refl))), each ws (λ y m. within y (inr m)))

  abbrev MendsFine : Outcome SiteView → Type 0
  MendsFine o = Fine SiteView c n t (IsOfUsers f.me) (InsideFact c f) NoWrite o

  nothing : MendsFine (quiet v)
  nothing = record { told = tt; own = tt; view = k; sent = tt; written = tt }

  one_starts : tab.started ≡ true → has_mend_in v.users tab.group ≡ false → (r : FileRow) → first_that (wants_mend v tab) tab.files ≡ Some r → AllRest c n t (starts_mend_of f tab (Some r) v).told → MendsFine (starts_mend_of f tab (Some r) v)
  one_starts started alone r found rest = record { told = done.told; own = done.own; view = users_beside c n t f v (on_call f (Some f.epoch) 0 (call.Mend (row_file tab r)) v.users) past k rest done; sent = done.sent; written = done.written }
    where
      done : CallsFine c n t f (on_call f (Some f.epoch) 0 (call.Mend (row_file tab r)) v.users)
      done = calls_fine c n t f (on_call f (Some f.epoch) 0 (call.Mend (row_file tab r)) v.users)
          (call_fine c n t f 0 (call.Mend (row_file tab r)) v.users past.followed k.frame k.users.inside (may_mend_it c t f v past k tab here started alone r found) tt (apart started alone r found) (staying c rests n t (on_call f (Some f.epoch) 0 (call.Mend (row_file tab r)) v.users).told past rest))

  both : (a b : Bool) → (a && not b) ≡ true → (a ≡ true) × (b ≡ false)
  both true true e = absurd (true_false (sym e))
  both true false e = (refl, refl)
  both false b e = absurd (true_false (sym e))

  pub mend_starts : AllRest c n t (starts_mend f tab v).told → MendsFine (starts_mend f tab v)
  mend_starts rest = over (tab.started && not (has_mend_in v.users tab.group)) refl rest
    where
      which : (tab.started ≡ true) × (has_mend_in v.users tab.group ≡ false) → (o : Option FileRow) → first_that (wants_mend v tab) tab.files ≡ o → AllRest c n t (starts_mend_of f tab o v).told → MendsFine (starts_mend_of f tab o v)
      which e None found q = nothing
      which e (Some r) found q = one_starts e.0 e.1 r found q

      over : (b : Bool) → (tab.started && not (has_mend_in v.users tab.group)) ≡ b → AllRest c n t (elim b as (λ (x : Bool). Outcome SiteView) [ true ↦ starts_mend_of f tab (first_that (wants_mend v tab) tab.files) v | false ↦ quiet v ]).told →
          MendsFine (elim b as (λ (x : Bool). Outcome SiteView) [ true ↦ starts_mend_of f tab (first_that (wants_mend v tab) tab.files) v | false ↦ quiet v ])
      over true e q = which (both tab.started (has_mend_in v.users tab.group) e) (first_that (wants_mend v tab) tab.files) refl q
      over false e q = nothing

-- ---- the tables stay ----

tables_same : (f : Frame) (tab : SyncTable) (v : SiteView) → (starts_mend f tab v).view.tables ≡ v.tables
tables_same f tab v = over (tab.started && not (has_mend_in v.users tab.group))
  where
    which : (o : Option FileRow) → (starts_mend_of f tab o v).view.tables ≡ v.tables
    which None = refl
    which (Some r) = refl

    over : (b : Bool) → (elim b as (λ (x : Bool). Outcome SiteView) [ true ↦ starts_mend_of f tab (first_that (wants_mend v tab) tab.files) v | false ↦ quiet v ]).view.tables ≡ v.tables
    over true = which (first_that (wants_mend v tab) tab.files)
    over false = refl

-- ---- one after another ----

none_written : (a b : Option DiskWrite) → WrittenFact NoWrite a → WrittenFact NoWrite b → WrittenFact NoWrite (first_written a b)
none_written None b h k = k
none_written (Some d) b h k = h

then_fine : (c : Config) (n : ℕ) (t : List Line) (me : ℕ) (F : List Line → SiteView → Type 0) (o p : Outcome SiteView) → Past c t → AllRest c n t (o.told ++ p.told) → Fine SiteView c n t (IsOfUsers me) F NoWrite o → Fine SiteView c n (told_onto n o.told t) (IsOfUsers me) F NoWrite p → Fine SiteView c n t (IsOfUsers me) F NoWrite (joined_to o p)
then_fine c n t me F o p past rest a b =
    let mid : List Line = told_onto n o.told t in
    let same : told_onto n (o.told ++ p.told) t ≡ told_onto n p.told mid = onto_append n o.told p.told t in
    let before : Past c mid = past_onto c n o.told t past a.told (rest_first c n o.told p.told t rest) in
    record {
      told = told_append c n o.told p.told t a.told b.told;
      own = every_append (IsOfUsers me) o.told p.told a.own b.own;
      view = subst (λ (u : List Line). F u p.view) (sym same) b.view;
      sent = subst (λ (u : List Line). Every (PacketFact c u) (joined_to o p).sent) (sym same) (every_append (PacketFact c (told_onto n p.told mid)) o.sent p.sent
          (packets_onto c n p.told mid (stays c) before b.told (rest_last c n o.told p.told t rest) o.sent a.sent) b.sent);
      written = none_written o.written p.written a.written b.written;
    }

all_start : (c : Config) → UserRests c → (n : ℕ) (f : Frame) (ts : List SyncTable) (t : List Line) (v : SiteView) → Past c t → InsideFact c f t v → ((tab : SyncTable) → Among tab ts → Among tab v.tables) → AllRest c n t (starts_mends_in f ts v).told →
    Fine SiteView c n t (IsOfUsers f.me) (InsideFact c f) NoWrite (starts_mends_in f ts v)
all_start c rests n f [] t v past k within rest = record { told = tt; own = tt; view = k; sent = tt; written = tt }
all_start c rests n f (tab ∷ ts) t v past k within rest =
    let o : Outcome SiteView = starts_mend f tab v in
    let p : Outcome SiteView = starts_mends_in f ts o.view in
    let first : Fine SiteView c n t (IsOfUsers f.me) (InsideFact c f) NoWrite o = mend_starts c rests n t f v past k tab (within tab (inl refl)) (rest_first c n o.told p.told t rest) in
    then_fine c n t f.me (InsideFact c f) o p past rest first
    (all_start c rests n f ts (told_onto n o.told t) o.view (past_onto c n o.told t past first.told (rest_first c n o.told p.told t rest)) first.view
    (λ u m. subst (Among u) (sym (tables_same f tab v)) (within u (inr m))) (rest_last c n o.told p.told t rest))

-- mends of the groups of a site start, with the groups ascending
pub mends_start : (c : Config) → UserRests c → (n : ℕ) (trace : List Line) (f : Frame) (v : SiteView) → Ready c trace f → InsideFact c f trace v → AllRest c n trace (starts_mends f v).told → Fine SiteView c n trace (IsOfUsers f.me) (InsideFact c f) NoWrite (starts_mends f v)
mends_start c rests n trace f v ready k rest = all_start c rests n f v.tables trace v ready.past k (λ tab m. m) rest
