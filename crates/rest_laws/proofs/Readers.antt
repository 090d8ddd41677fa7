-- An open instance that is only read has the content of the version with which it was granted: nobody asks it to be changed.
use Rattle.std.proofs.Common.{◌≡◌, ℕ, Bool, true, false, cond, List, [], ◌∷◌, Option, Some, None, refl, sym, ◌∙◌, ap, subst, ◌⊎◌, inl, inr}
use Rattle.std.specs.Prelude.{nat_lt, not, ◌==◌, ◌+◌, length}
use Rattle.role_steps.proofs.of_plain_facts.Options.{none_some, some_same}
use Rattle.role_steps.proofs.of_plain_facts.Tests.{and_second, false_unless, true_false}
use Rattle.locus_ids.specs.declared.config.Config.{Config}
use Rattle.locus_ids.specs.declared.ids.CallId.{CallId}
use Rattle.locus_ids.specs.declared.ids.EpochId.{EpochId}
use Rattle.locus_ids.specs.declared.ids.FileId.{FileId}
use Rattle.locus_ids.specs.declared.ids.Serial.{Serial}
use Rattle.locus_ids.specs.declared.ids.Stamp.{Stamp}
use Rattle.locus_ids.specs.declared.refusal.Refusal.TheVariants as refusal
use Rattle.locus_ids.specs.Sizes.{directory_bytes_max}
use Rattle.commit_graph.specs.Grants.{is_read}
use Rattle.commit_graph.specs.Versions.{same_file}
use Rattle.commit_graph.specs.declared.history.Version.{Version}
use Rattle.trace_book.specs.declared.operation.Op.{Op}
use Rattle.trace_book.specs.declared.operation.Op.TheVariants as op
use Rattle.trace_book.specs.declared.operation.Outcome.{Outcome}
use Rattle.trace_book.specs.declared.operation.Outcome.TheVariants as outcome
use Rattle.trace_book.specs.declared.record.Record.{Record}
use Rattle.trace_book.specs.declared.record.Record.TheVariants as says
use Rattle.dir_format.specs.declared.entry.Entry.{Entry}
use Rattle.dir_format.specs.declared.looking.LookResult.{LookResult}
use Rattle.dir_format.specs.declared.looking.LookResult.TheVariants as looked
use Rattle.dir_format.specs.Contents.{entries_of}
use Rattle.dir_format.specs.Effects.{DirEffect, answers, empty_among, empty_effect, find_by, find_effect, probe_beside, probe_effect, refuses, size_of}
use Rattle.dir_format.specs.Grammar.{dir_bytes}
use Rattle.dir_format.specs.Lookups.{lookup, shown_names}
use Rattle.file_effects.specs.Effects.{As, Effect, effect, is_refusal, is_worded, on_directory}
use Rattle.file_effects.specs.Works.{carried_out, counted}
use Rattle.file_effects.specs.declared.work.Work.{Work}
use Rattle.role_steps.specs.Views.{Told, Shown}
use Rattle.the_run.specs.Worlds.{Line}
use Rattle.tree_model.specs.declared.instance.Instance.{Instance}
use Rattle.tree_model.specs.Histories.{history, stamped_content}
use Rattle.tree_model.specs.State.{TreeState, held_at}
use Rattle.tree_model.specs.Tree.{tree_of}
use Rattle.tree_model.specs.Working.{operated_by, work_after}
use Rattle.lawful_trace.specs.TreeRows.{IsCallIn, granted_group}
use Rattle.tree_laws.specs.Following.{IsFollowed, MayTell}
use Rattle.tree_laws.specs.Frames.{IsFresh}
use Rattle.tree_laws.specs.Instances.{Stands, instance_now}
use Rattle.tree_laws.specs.Past.{NamingRecord, Printed, WasGranted, WasNamed}
use Rattle.tree_laws.specs.Printed.{entries}
use Rattle.tree_laws.proofs.Grants.{Had, before_record, in_tree_named, open_named}
use Rattle.tree_laws.proofs.Histories.{content_same}
use Rattle.tree_laws.proofs.Kinship.{Ends, GoesOnTold, StaysOpen, open_stays}
use Rattle.tree_laws.proofs.Opened.{ActsOn, CommitsOn, GrantsIt}
use Rattle.tree_laws.proofs.Rows.{followed_rows}
use Rattle.store_laws.specs.OneTree.Rest.{EachRest}
use Rattle.store_laws.specs.of_site_laws.Locks.Writing.{changes}
use Rattle.store_laws.proofs.Holdings.Begun.{Untouched, granted_open, open_seat}
use Rattle.store_laws.proofs.Holdings.Made.{held_stand}
use Rattle.store_laws.proofs.Holdings.Released.{released_shut}
use Rattle.store_laws.proofs.Holdings.Seats.{Seat}
use Rattle.store_laws.proofs.Holdings.Turning.{acted_last}
use Rattle.store_laws.proofs.AnswerDone.{open_before}
use Rattle.rest_laws.proofs.StoreStepAsking.{changed_open}

-- ---- an operation that changes nothing ----

abbrev Keeps : List ℕ → Option Effect → Type 0
Keeps content None = Unit {0}
Keeps content (Some e) = e.content ≡ content

on_directory_keeps : (content : List ℕ) (d : DirEffect) → d.counts ≡ false → (worded dir : Bool) → Keeps content (cond worded (cond dir (Some (on_directory content d)) None) None)
on_directory_keeps content d clean true true = ap (λ (b : Bool). cond b (dir_bytes d.entries) content) clean
on_directory_keeps content d clean true false = tt
on_directory_keeps content d clean false dir = tt

probe_clean : (name : List ℕ) (ds : List Entry) (o : Option Entry) → (probe_beside name ds o).counts ≡ false
probe_clean name ds (Some d) = refl
probe_clean name ds None = over (nat_lt directory_bytes_max (size_of ds + (length name + 8)))
  where
    over : (b : Bool) → (cond {A = DirEffect} b (refuses refusal.TooLong ds) (answers outcome.Done ds)).counts ≡ false
    over true = refl
    over false = refl

find_clean : (component : List ℕ) (ds : List Entry) (r : LookResult) → (find_by component ds r).counts ≡ false
find_clean component ds (looked.Found ino kind) = refl
find_clean component ds looked.Absent = refl
find_clean component ds (looked.Ambiguous a b) = refl

empty_clean : (ds : List Entry) (names : List (List ℕ)) → (empty_among ds names).counts ≡ false
empty_clean ds [] = refl
empty_clean ds (n ∷ ns) = refl

as_keeps : (o : Op) (content : List ℕ) → changes o ≡ false → Keeps content (effect (As o) content)
as_keeps (op.Read at len) content e = refl
as_keeps (op.Probe name) content e = on_directory_keeps content (probe_effect name (entries_of content)) (probe_clean name (entries_of content) _) (is_worded (op.Probe name)) _
as_keeps (op.Find component) content e = on_directory_keeps content (find_effect component (entries_of content)) (find_clean component (entries_of content) (lookup (entries_of content) component)) true _
as_keeps op.Empty content e = on_directory_keeps content (empty_effect (entries_of content)) (empty_clean (entries_of content) (shown_names (entries_of content))) true _
as_keeps op.Commit content e = tt
as_keeps op.Abort content e = tt
as_keeps op.Mend content e = tt
as_keeps (op.Remove name ino) content e = tt
as_keeps (op.Insert name ino kind) content e = absurd (true_false e)
as_keeps (op.Rename component name) content e = absurd (true_false e)
as_keeps (op.Write at bytes) content e = absurd (true_false e)
as_keeps (op.Cut len) content e = absurd (true_false e)

operated_keeps : (e : Option Effect) (r : Outcome) (w : Work) → Keeps w.content e → (operated_by r e w).content ≡ w.content
operated_keeps None r w k = refl
operated_keeps (Some e) r w k = over (is_refusal r)
  where
    over : (b : Bool) → (cond b (counted w) (carried_out e w)).content ≡ w.content
    over true = refl
    over false = k

-- it leaves the content, or goes back to that of the version on which the instance stands
acted_keeps : (h : List Version) (t : TreeState) (o : Op) (r : Outcome) (x : Instance) → changes o ≡ false → x.work.content ≡ stamped_content h x.grant.file x.work.last → (work_after h t o r x).content ≡ stamped_content h x.grant.file x.work.last
acted_keeps h t op.Commit r x e is = is
acted_keeps h t op.Abort r x e is = refl
acted_keeps h t (op.Probe name) r x e is = operated_keeps (effect (As (op.Probe name)) x.work.content) r x.work (as_keeps (op.Probe name) x.work.content e) ∙ is
acted_keeps h t (op.Find component) r x e is = operated_keeps (effect (As (op.Find component)) x.work.content) r x.work (as_keeps (op.Find component) x.work.content e) ∙ is
acted_keeps h t op.Empty r x e is = operated_keeps (effect (As op.Empty) x.work.content) r x.work (as_keeps op.Empty x.work.content e) ∙ is
acted_keeps h t (op.Read at len) r x e is = operated_keeps (effect (As (op.Read at len)) x.work.content) r x.work (as_keeps (op.Read at len) x.work.content e) ∙ is
acted_keeps h t op.Mend r x e is = absurd (true_false e)
acted_keeps h t (op.Remove name ino) r x e is = absurd (true_false e)
acted_keeps h t (op.Insert name ino kind) r x e is = absurd (true_false e)
acted_keeps h t (op.Rename component name) r x e is = absurd (true_false e)
acted_keeps h t (op.Write at bytes) r x e is = absurd (true_false e)
acted_keeps h t (op.Cut len) r x e is = absurd (true_false e)

-- ---- an open instance that is only read ----

-- it was granted on the version on which it stands, and has its content
pub record ReadsVersion (c : Config) (t : List Line) (e : EpochId) (i : Serial) (x : Instance) : Type 0 where
  pub call : CallId
  pub request : ℕ
  pub place : ℕ
  pub was_granted : WasGranted t e call request i x.grant.mode x.grant.file x.work.last place
  pub content_is : x.work.content ≡ stamped_content (history c (entries t)) x.grant.file x.work.last

-- the version on which an open instance stands, stands
pub last_stands : (c : Config) (t : List Line) → IsFollowed c t → (e : EpochId) (i : Serial) (x : Instance) → instance_now c t e i ≡ Some x → (s : Stamp) → x.work.last ≡ Some s → Stands c t x.grant.file s
last_stands c t h e i x found s last = held_stand c (entries t) (followed_rows c t h) e x.grant.file x.grant.ss s
    (subst (λ (g : ℕ). held_at (tree_of c e g (entries t)) x.grant.ss x.grant.file.ino ≡ Some s) (sym seat.group_is) (sym seat.last_is ∙ last))
  where
    seat : Seat e (granted_group (entries t) e i) (entries t) (tree_of c e (granted_group (entries t) e i) (entries t)) x
    seat = open_seat c t h e i x found

abbrev pub With : ℕ → Told → List Line → List Line
With n z older = record { number = n; told = z } ∷ older

module _ (c : Config) (older : List Line) (n : ℕ) (h : IsFollowed c older) (z : Told) (may : MayTell c older z) (fresh : IsFresh c older z) (e : EpochId) (i : Serial) where
  -- what an instance stands on is what it was
  base_same : (old : Instance) → instance_now c older e i ≡ Some old → (o : Option Stamp) → old.work.last ≡ o → stamped_content (history c (entries (With n z older))) old.grant.file o ≡ stamped_content (history c (entries older)) old.grant.file o
  base_same old was None last = refl
  base_same old was (Some s) last = content_same c n z older old.grant.file s fresh (last_stands c older h e i old was s last)

  -- one that did what changes nothing goes on so
  goes_on : (old new : Instance) → instance_now c older e i ≡ Some old → new.grant ≡ old.grant → new.work.last ≡ old.work.last → new.work.content ≡ stamped_content (history c (entries older)) old.grant.file old.work.last → ReadsVersion c older e i old → ReadsVersion c (With n z older) e i new
  goes_on old new was grant last content k = record {
    call = k.call;
    request = k.request;
    place = k.place;
    was_granted = inr (subst (λ (s : Option Stamp). WasGranted older e k.call k.request i new.grant.mode new.grant.file s k.place) (sym last) (subst (λ (g : _). WasGranted older e k.call k.request i g.mode g.file old.work.last k.place) (sym grant) k.was_granted));
    content_is = content ∙ (sym (base_same old was old.work.last refl) ∙ (ap (λ (s : Option Stamp). stamped_content (history c (entries (With n z older))) old.grant.file s) (sym last) ∙ ap (λ (g : _). stamped_content (history c (entries (With n z older))) g.file new.work.last) (sym grant)));
  }

module _ (c : Config) (older : List Line) (n : ℕ) (h : IsFollowed c older) (e : EpochId) (i : Serial) where
  goes_reading : (z : Told) → MayTell c older z → IsFresh c older z → (old new : Instance) → instance_now c older e i ≡ Some old → new.grant ≡ old.grant → GoesOnTold c older e i old new z → is_read old.grant.mode ≡ true → ReadsVersion c older e i old → ReadsVersion c (With n z older) e i new
  goes_reading (Shown r) may fresh old new found grant (inl same) read k = goes_on c older n h (Shown r) may fresh e i old new found grant (ap (λ (y : Instance). y.work.last) same) (ap (λ (y : Instance). y.work.content) same ∙ k.content_is) k
  goes_reading (Shown r) may fresh old new found grant (inr (inl acts)) read k = over r may fresh acts
    where
      over : (r : Record) → MayTell c older (Shown r) → IsFresh c older (Shown r) → ActsOn (history c (entries older)) (tree_of c e (granted_group (entries older) e i) (entries older)) e i old new r → ReadsVersion c (With n (Shown r) older) e i new
      over (says.Act at inst number o result) may fresh a = goes_on c older n h (Shown (says.Act at inst number o result)) may fresh e i old new found grant
          (ap (λ (y : Instance). y.work.last) a.1 ∙ acted_last (history c (entries older)) (tree_of c e (granted_group (entries older) e i) (entries older)) o result old)
          (ap (λ (y : Instance). y.work.content) a.1 ∙ acted_keeps (history c (entries older)) (tree_of c e (granted_group (entries older) e i) (entries older)) o result old (false_unless (changes o) (λ q. true_false (sym read ∙ wrote q))) k.content_is) k
        where
          inside : IsCallIn (entries older) at may.in_time.call
          inside = subst (IsCallIn (entries older) at) (some_same may.row.step.call may.in_time.call (sym may.row.step.owned ∙ may.in_time.owner)) may.row.step.step

          wrote : changes o ≡ true → is_read old.grant.mode ≡ false
          wrote q = changed_open c older h at may.in_time.call inst o old inside may.in_time.asks q (subst (λ (j : Serial). instance_now c older at j ≡ Some old) (sym a.0.1) (subst (λ (y : EpochId). instance_now c older y i ≡ Some old) (sym a.0.0) found))
      over _ may fresh a = absurd a
  goes_reading (Shown r) may fresh old new found grant (inr (inr commits)) read k = over r may fresh commits
    where
      -- it commits nothing
      over : (r : Record) → MayTell c older (Shown r) → IsFresh c older (Shown r) → CommitsOn (tree_of c e (granted_group (entries older) e i) (entries older)) old new r → ReadsVersion c (With n (Shown r) older) e i new
      over (says.Commit f s stamp parents content) may fresh w = absurd (true_false (sym (and_second (old.grant.ss == s) _ (and_second (same_file old.grant.file f) _ w.1)) ∙ ap not read))
      over _ may fresh w = absurd w
  goes_reading z may fresh old new found grant same read k = goes_on c older n h z may fresh e i old new found grant (ap (λ (y : Instance). y.work.last) same) (ap (λ (y : Instance). y.work.content) same ∙ k.content_is) k

  ended : (z : Told) → MayTell c older z → (x : Instance) → instance_now c (With n z older) e i ≡ Some x → Ends e i z → ⊥
  ended (Shown (says.Release at inst f stamp)) may x found end = released_shut c (With n (Shown (says.Release at inst f stamp)) older) (may, h) e i x (inl (record { epoch_is = end.0; serial_is = end.1 })) found
  ended _ may x found end = absurd end

  stays_reading : (z : Told) → MayTell c older z → IsFresh c older z → (x : Instance) → instance_now c (With n z older) e i ≡ Some x → is_read x.grant.mode ≡ true → WasNamed older e i → ((y : Instance) → instance_now c older e i ≡ Some y → is_read y.grant.mode ≡ true → ReadsVersion c older e i y) → ReadsVersion c (With n z older) e i x
  stays_reading z may fresh x found read named before =
      let was : (old : Instance) × (instance_now c older e i ≡ Some old) = open_before c n z older h may e i x named found in
      over was.0 was.1 (open_stays c older n z e i was.0 may named was.1)
    where
      over : (old : Instance) → instance_now c older e i ≡ Some old → StaysOpen c older n z e i old ⊎ Ends e i z → ReadsVersion c (With n z older) e i x
      over old was (inl s) =
          let it : s.new ≡ x = some_same s.new x (sym s.found ∙ found) in
          let reads : is_read old.grant.mode ≡ true = ap (λ (g : _). is_read g.mode) (sym s.grant_same) ∙ (ap (λ (y : Instance). is_read y.grant.mode) it ∙ read) in
          subst (ReadsVersion c (With n z older) e i) it (goes_reading z may fresh old s.new was s.grant_same s.goes reads (before old was reads))
      over old was (inr end) = absurd (ended z may x found end)

  -- or it is as it was granted
  granted_reading : (z : Told) → MayTell c older z → (x : Instance) → instance_now c (With n z older) e i ≡ Some x → Printed (NamingRecord e i) older z → ReadsVersion c (With n z older) e i x
  granted_reading (Shown r) may x found k = over r may found k
    where
      over : (r : Record) → MayTell c older (Shown r) → instance_now c (With n (Shown r) older) e i ≡ Some x → NamingRecord e i older r → ReadsVersion c (With n (Shown r) older) e i x
      over (says.Grant at it request inst m f stamp ss) may found k =
          let now : List Line = With n (Shown (says.Grant at it request inst m f stamp ss)) older in
          let u : Untouched c now at inst m f stamp ss = granted_open c older n h at it request inst m f stamp ss may in
          let same : u.at ≡ x = some_same u.at x (sym u.open_at.found ∙ subst (λ (j : Serial). instance_now c now at j ≡ Some x) (sym k.serial_is) (subst (λ (y : EpochId). instance_now c now y i ≡ Some x) (sym k.epoch_is) found)) in
          let last_is : x.work.last ≡ stamp = ap (λ (y : Instance). y.work.last) (sym same) ∙ ap (λ (w : Work). w.last) u.work_is in
          let file_is : x.grant.file ≡ f = ap (λ (y : Instance). y.grant.file) (sym same) ∙ u.file_is in
          record {
            call = it;
            request = request;
            place = ss;
            was_granted = inl (record { epoch_is = k.epoch_is; call_is = refl; request_is = refl; serial_is = k.serial_is; mode_is = sym u.mode_is ∙ ap (λ (y : Instance). y.grant.mode) same; file_is = sym file_is; stamp_is = sym last_is; place_is = refl });
            content_is = ap (λ (y : Instance). y.work.content) (sym same) ∙ (ap (λ (w : Work). w.content) u.work_is ∙ (ap (λ (g : FileId). stamped_content (history c (entries now)) g stamp) (sym file_is) ∙ ap (λ (s : Option Stamp). stamped_content (history c (entries now)) x.grant.file s) (sym last_is)));
          }
      over (says.Refuse at it request inst m f why) may found k = absurd (may.in_time.new (subst (WasNamed older at) (sym k.serial_is) (subst (λ (y : EpochId). WasNamed older y i) (sym k.epoch_is)
          (had (before_record (history c (entries older)) (tree_of c e (granted_group (entries older) e i) (entries older)) i x (says.Refuse at it request inst m f why) found)))))
        where
          had : Had i (tree_of c e (granted_group (entries older) e i) (entries older)).instances ⊎ GrantsIt (tree_of c e (granted_group (entries older) e i) (entries older)).epoch i (says.Refuse at it request inst m f why) → WasNamed older e i
          had (inl y) = in_tree_named c e (granted_group (entries older) e i) i older y.0 y.1
          had (inr y) = absurd y
      over _ may found k = absurd k
  granted_reading _ may x found k = absurd k

pub reader_reads : (c : Config) (t : List Line) → IsFollowed c t → EachRest c t → (e : EpochId) (i : Serial) (x : Instance) → instance_now c t e i ≡ Some x → is_read x.grant.mode ≡ true → ReadsVersion c t e i x
reader_reads c [] h rest e i x found read = absurd (none_some x found)
reader_reads c (y ∷ older) h rest e i x found read = over (λ z. reader_reads c older h.1 rest.1 e i z) (open_named c (y ∷ older) e i x found)
  where
    over : ((z : Instance) → instance_now c older e i ≡ Some z → is_read z.grant.mode ≡ true → ReadsVersion c older e i z) → Printed (NamingRecord e i) older y.told ⊎ WasNamed older e i → ReadsVersion c (y ∷ older) e i x
    over before (inl k) = granted_reading c older y.number h.1 e i y.told h.0 x found k
    over before (inr named) = stays_reading c older y.number h.1 e i y.told h.0 rest.0.fresh x found read named before
