-- In every run each disk holds of each file the version that its site committed or adopted last.
use Rattle.std.proofs.Common.{◌≡◌, ◌≢◌, ℕ, ◌==◌, Bool, true, false, cond, List, [], ◌∷◌, ◌++◌, map, Option, Some, None, refl, sym, ◌∙◌, ap, subst, inl, inr}
use Rattle.run_laws.proofs.of_plain_facts.Numbers.{apart_test, equal, equal_self}
use Rattle.run_laws.proofs.of_plain_facts.Options.{some_same}
use Rattle.locus_ids.specs.declared.ids.FileId.{FileId}
use Rattle.locus_ids.specs.declared.config.Config.{Config}
use Rattle.run_laws.specs.of_schedule_lines.declared.line.ScheduleLine.{ScheduleLine}
use Rattle.trace_book.specs.declared.record.Record.{Record}
use Rattle.trace_book.specs.declared.record.Record.TheVariants as says
use Rattle.trace_book.specs.declared.record.StopCause.TheVariants as cause
use Rattle.run_laws.specs.of_wire_messages.declared.packet.Packet.{Packet}
use Rattle.run_laws.specs.of_role_steps.Own.{Every}
use Rattle.run_laws.specs.of_role_steps.Tables.{row, with_row}
use Rattle.run_laws.specs.of_role_steps.Views.{SiteView, Told, Shown, DiskWrite, Outcome, Receives, file_key}
use Rattle.run_laws.specs.of_role_steps.Storage.{copy_key}
use Rattle.run_laws.specs.of_role_steps.declared.copies.FileCopy.{FileCopy}
use Rattle.run_laws.proofs.of_role_steps.Rows.{row_other, row_same}
use Rattle.run_laws.proofs.of_role_steps.Sending.{every_map}
use Rattle.run_laws.specs.of_the_run.Disks.{Disk, Booted, Whole, CutOff, boots, cut_disk, is_on_disk}
use Rattle.run_laws.specs.of_the_run.Steps.{step}
use Rattle.run_laws.specs.of_the_run.Worlds.{World, Place, Running, Stopped, Numbered, Line, links_of, place_at, script_of, happened, told_onto, disk_of, puts, arms, passed, stops_with, cause_of, acts, fresh, first_world, formatted}
use Rattle.run_laws.specs.of_the_run.Runs.{boots_as, packet_record, run_in}
use Rattle.run_laws.specs.of_the_run.Kept.{Kept}
use Rattle.run_laws.proofs.of_the_run.Boots.{at_each, acts_cases}
use Rattle.run_laws.proofs.of_the_run.Events.{happened_keeps, puts_other, puts_same}
use Rattle.run_laws.proofs.of_the_run.Runs.{every_run}
pub use Rattle.run_laws.proofs.FactWalks.Boots.{KeepsCopies, boots_copies}
use Rattle.run_laws.proofs.Walks.FirstWorld.{first_places}
use Rattle.site_laws.specs.Vectors.Held.{after_record, after_told, last_write, IsOf, IsHeld, copies_on, CopiesAreTold, StillRecord, Still}
use Rattle.site_laws.proofs.Vectors.SiteDisks.{SiteDisk, step_disk}

-- ---- what is told of a file ----

-- the last write after these were told
abbrev writes : ℕ → ℕ → List Told → Option Record → Option Record
writes s key [] last = last
writes s key (x ∷ xs) last = writes s key xs (after_told s key x last)

onto_writes : (s key n : ℕ) (told : List Told) (trace : List Line) → last_write s key (told_onto n told trace) ≡ writes s key told (last_write s key trace)
onto_writes s key n [] trace = refl
onto_writes s key n (x ∷ xs) trace = onto_writes s key n xs (record { number = n; told = x } ∷ trace)

still_record : (s key : ℕ) (r : Record) (last : Option Record) → StillRecord r → after_record s key r last ≡ last
still_record s key (says.Commit file t stamp parents content) last h = absurd h
still_record s key (says.Adopt file t stamp) last h = absurd h
still_record s key _ last h = refl

still_told : (s key : ℕ) (x : Told) (last : Option Record) → Still x → after_told s key x last ≡ last
still_told s key (Shown r) last h = still_record s key r last h
still_told s key _ last h = refl

still_writes : (s key : ℕ) (told : List Told) (last : Option Record) → Every Still told → writes s key told last ≡ last
still_writes s key [] last h = refl
still_writes s key (x ∷ xs) last h = ap (writes s key xs) (still_told s key x last h.0) ∙ still_writes s key xs last h.1

one_writes : (s key : ℕ) (before after : List Told) (r : Record) (last : Option Record) → Every Still before → Every Still after → writes s key (before ++ Shown r ∷ after) last ≡ after_record s key r last
one_writes s key [] after r last h g = still_writes s key after (after_record s key r last) g
one_writes s key (x ∷ xs) after r last h g = ap (λ (o : Option Record). writes s key (xs ++ Shown r ∷ after) o) (still_told s key x last h.0) ∙ one_writes s key xs after r last h.1 g

-- what a site writes isn't told of another one
other_case : (s t : ℕ) (a b : Option Record) → s ≢ t → cond (s == t) a b ≡ b
other_case s t a b ne = subst (λ (x : Bool). cond x a b ≡ b) (sym (apart_test s t ne)) refl

other_record : (s t key : ℕ) (r : Record) (x : FileCopy) (last : Option Record) → s ≢ t → IsOf s r x → after_record t key r last ≡ last
other_record s t key (says.Commit file u stamp parents content) x last ne h = other_case u t _ last (subst (λ (y : ℕ). y ≢ t) (sym h.0) ne)
other_record s t key (says.Adopt file u stamp) x last ne h = other_case u t _ last (subst (λ (y : ℕ). y ≢ t) (sym h.0) ne)
other_record s t key _ x last ne h = absurd h

-- ---- one row of a disk ----

own_case : (s : ℕ) (a b : Option Record) → cond (s == s) a b ≡ a
own_case s a b = subst (λ (t : Bool). cond t a b ≡ a) (sym (equal_self s)) refl

-- the record of a copy that is written, at its own key and at any other
record_at : (s key : ℕ) (r : Record) (x : FileCopy) (last : Option Record) → IsOf s r x → after_record s key r last ≡ cond (copy_key x == key) (Some r) last
record_at s key (says.Commit file t stamp parents content) x last h =
    subst (λ (u : ℕ). cond (u == s) (cond (file_key file == key) (Some (says.Commit file u stamp parents content)) last) last ≡ cond (copy_key x == key) (Some (says.Commit file u stamp parents content)) last) (sym h.0)
    (own_case s _ last ∙ ap (λ (g : FileId). cond (file_key g == key) (Some (says.Commit file s stamp parents content)) last) (sym h.1.file_is))
record_at s key (says.Adopt file t stamp) x last h =
    subst (λ (u : ℕ). cond (u == s) (cond (file_key file == key) (Some (says.Adopt file u stamp)) last) last ≡ cond (copy_key x == key) (Some (says.Adopt file u stamp)) last) (sym h.0)
    (own_case s _ last ∙ ap (λ (g : FileId). cond (file_key g == key) (Some (says.Adopt file s stamp)) last) (sym h.1))
record_at s key _ x last h = absurd h

held_same : (c : Config) (s key : ℕ) (a b : Option Record) (x y : Option FileCopy) → a ≡ b → x ≡ y → IsHeld c s key b y → IsHeld c s key a x
held_same c s key a b x y e f h = subst (λ (r : Option Record). IsHeld c s key r x) (sym e) (subst (λ (z : Option FileCopy). IsHeld c s key b z) (sym f) h)

-- a disk with one version more holds it
row_held : (c : Config) (s key : ℕ) (r : Record) (x : FileCopy) (copies : List FileCopy) (last : Option Record) → IsOf s r x → IsHeld c s key last (row copy_key key copies) → IsHeld c s key (after_record s key r last) (row copy_key key (with_row copy_key x copies))
row_held c s key r x copies last is h = (elim (copy_key x == key) as (λ b. (copy_key x == key) ≡ b → IsHeld c s key (after_record s key r last) (row copy_key key (with_row copy_key x copies))) [
  | true ↦ λ e. held_same c s key (after_record s key r last) (Some r) (row copy_key key (with_row copy_key x copies)) (Some x)
      (record_at s key r x last is ∙ ap (λ (b : Bool). cond b (Some r) last) e)
      (subst (λ (k : ℕ). row copy_key k (with_row copy_key x copies) ≡ Some x) (equal (copy_key x) key e) (row_same copy_key x copies)) is
  | false ↦ λ e. held_same c s key (after_record s key r last) last (row copy_key key (with_row copy_key x copies)) (row copy_key key copies)
      (record_at s key r x last is ∙ ap (λ (b : Bool). cond b (Some r) last) e) (row_other copy_key x key copies e) h
]) refl

-- ---- one event ----

-- what is told of one site after an event
abbrev DiskIsTold : Config → ℕ → List Line → List FileCopy → Type 0
DiskIsTold c s trace copies = (key : ℕ) → IsHeld c s key (last_write s key trace) (row copy_key key copies)

happened_told : (c : Config) (n : ℕ) (ps : List Packet) (told : List Told) (change : World → World) (w : World) →
    ((t : ℕ) (p : Place) → place_at (change w) t ≡ Some p → DiskIsTold c t (told_onto n told w.trace) (copies_on p)) → CopiesAreTold c w → CopiesAreTold c (happened n ps told change w)
happened_told c n ps told change w now g =
    happened_keeps (CopiesAreTold c) n ps told change w g (λ l s key p here. g s key p here) (λ k b t s key p here. now s p here key)

still_onto : (c : Config) (n s : ℕ) (told : List Told) (trace : List Line) (copies : List FileCopy) → Every Still told → DiskIsTold c s trace copies → DiskIsTold c s (told_onto n told trace) copies
still_onto c n s told trace copies h g key = held_same c s key (last_write s key (told_onto n told trace)) (last_write s key trace) (row copy_key key copies) (row copy_key key copies) (onto_writes s key n told trace ∙ still_writes s key told (last_write s key trace) h) refl (g key)

-- an event in which nothing of a version on a disk is told, and one place changes but not its disk
still_event : (c : Config) (n s : ℕ) (old new : Place) (told : List Told) (ps : List Packet) (change : World → World) (w : World) → place_at w s ≡ Some old → copies_on new ≡ copies_on old → ((t : ℕ) → place_at (change w) t ≡ place_at (puts s new w) t) → Every Still told → CopiesAreTold c w → CopiesAreTold c (happened n ps told change w)
still_event c n s old new told ps change w here disk same_places h g =
    happened_told c n ps told change w (λ t p at. at_each s t (DiskIsTold c t (told_onto n told w.trace) (copies_on p))
    (λ e. subst (λ (u : ℕ). DiskIsTold c u (told_onto n told w.trace) (copies_on p)) e (mine p (sym (puts_same s new w) ∙ (sym (same_places s) ∙ (ap (place_at (change w)) e ∙ at)))))
    (λ ne. still_onto c n t told w.trace (copies_on p) h (λ key. g t key p (sym (puts_other s t new w ne) ∙ (sym (same_places t) ∙ at))))) g
  where
    mine : (p : Place) → Some new ≡ Some p → DiskIsTold c s (told_onto n told w.trace) (copies_on p)
    mine p e = subst (λ (q : Place). DiskIsTold c s (told_onto n told w.trace) (copies_on q)) (some_same new p e) (subst (λ (xs : List FileCopy). DiskIsTold c s (told_onto n told w.trace) xs) (sym disk) (still_onto c n s told w.trace (copies_on old) h (λ key. g s key old here)))

quiet_event : (c : Config) (n : ℕ) (told : List Told) (w : World) → Every Still told → CopiesAreTold c w → CopiesAreTold c (happened n [] told (λ now. now) w)
quiet_event c n told w h g = happened_told c n [] told (λ now. now) w (λ t p at. still_onto c n t told w.trace (copies_on p) h (λ key. g t key p at)) g

-- one version is written at a site, and told once
write_event : (c : Config) (n s : ℕ) (old new : Place) (d : DiskWrite) (before after told : List Told) (ps : List Packet) (change : World → World) (w : World) → place_at w s ≡ Some old → copies_on new ≡ with_row copy_key d.copy (copies_on old) → IsOf s d.says d.copy →
    told ≡ before ++ Shown d.says ∷ after → Every Still before → Every Still after → ((t : ℕ) → place_at (change w) t ≡ place_at (puts s new w) t) → CopiesAreTold c w → CopiesAreTold c (happened n ps told change w)
write_event c n s old new d before after told ps change w here disk is e h k same_places g =
    happened_told c n ps told change w (λ t p at. at_each s t (DiskIsTold c t (told_onto n told w.trace) (copies_on p))
    (λ q. subst (λ (u : ℕ). DiskIsTold c u (told_onto n told w.trace) (copies_on p)) q (mine p (sym (puts_same s new w) ∙ (sym (same_places s) ∙ (ap (place_at (change w)) q ∙ at)))))
    (λ ne key. held_same c t key (last_write t key (told_onto n told w.trace)) (last_write t key w.trace) (row copy_key key (copies_on p)) (row copy_key key (copies_on p)) (now t key ∙ other_record s t key d.says d.copy (last_write t key w.trace) ne is) refl (g t key p (sym (puts_other s t new w ne) ∙ (sym (same_places t) ∙ at))))) g
  where
    now : (t key : ℕ) → last_write t key (told_onto n told w.trace) ≡ after_record t key d.says (last_write t key w.trace)
    now t key = onto_writes t key n told w.trace ∙ (ap (λ (xs : List Told). writes t key xs (last_write t key w.trace)) e ∙ one_writes t key before after d.says (last_write t key w.trace) h k)

    own : DiskIsTold c s (told_onto n told w.trace) (with_row copy_key d.copy (copies_on old))
    own key = held_same c s key (last_write s key (told_onto n told w.trace)) (after_record s key d.says (last_write s key w.trace)) (row copy_key key (with_row copy_key d.copy (copies_on old))) (row copy_key key (with_row copy_key d.copy (copies_on old))) (now s key) refl (row_held c s key d.says d.copy (copies_on old) (last_write s key w.trace) is (g s key old here))

    mine : (p : Place) → Some new ≡ Some p → DiskIsTold c s (told_onto n told w.trace) (copies_on p)
    mine p f = subst (λ (q : Place). DiskIsTold c s (told_onto n told w.trace) (copies_on q)) (some_same new p f) (subst (λ (xs : List FileCopy). DiskIsTold c s (told_onto n told w.trace) xs) (sym disk) own)

-- ---- a step of a site ----

runs_told : (c : Config) (n s : ℕ) (v : SiteView) (o : Outcome SiteView) (change : World → World) (w : World) → place_at w s ≡ Some (Running v) → SiteDisk s v o → ((t : ℕ) → place_at (change w) t ≡ place_at w t) → CopiesAreTold c w →
    CopiesAreTold c (happened n o.sent o.told (λ now. puts s (Running o.view) (change now)) w)
runs_told c n s v o change w here (inl h) same_places g = still_event c n s (Running v) (Running o.view) o.told o.sent (λ now. puts s (Running o.view) (change now)) w here h.copies (put_same s (Running o.view) (change w) w same_places) h.still g
  where
    put_same : (s : ℕ) (p : Place) (u w : World) → ((t : ℕ) → place_at u t ≡ place_at w t) → (t : ℕ) → place_at (puts s p u) t ≡ place_at (puts s p w) t
    put_same s p u w e t = at_each s t (place_at (puts s p u) t ≡ place_at (puts s p w) t) (λ q. subst (λ (x : ℕ). place_at (puts s p u) x ≡ place_at (puts s p w) x) q (puts_same s p u ∙ sym (puts_same s p w))) (λ ne. puts_other s t p u ne ∙ (e t ∙ sym (puts_other s t p w ne)))
runs_told c n s v o change w here (inr h) same_places g = write_event c n s (Running v) (Running o.view) h.0 h.1.before h.1.after o.told o.sent (λ now. puts s (Running o.view) (change now)) w here h.1.copies h.1.says_so h.1.told_is h.1.still_before h.1.still_after (put_same s (Running o.view) (change w) w same_places) g
  where
    put_same : (s : ℕ) (p : Place) (u w : World) → ((t : ℕ) → place_at u t ≡ place_at w t) → (t : ℕ) → place_at (puts s p u) t ≡ place_at (puts s p w) t
    put_same s p u w e t = at_each s t (place_at (puts s p u) t ≡ place_at (puts s p w) t) (λ q. subst (λ (x : ℕ). place_at (puts s p u) x ≡ place_at (puts s p w) x) q (puts_same s p u ∙ sym (puts_same s p w))) (λ ne. puts_other s t p u ne ∙ (e t ∙ sym (puts_other s t p w ne)))

no_write : (d : DiskWrite) → ◌≡◌ {A = Option DiskWrite} None (Some d) → ⊥
no_write d e = cc

cut_case : (c : Config) (n s : ℕ) (v : SiteView) (d : DiskWrite) (disk : Disk) (how : _) (b : Bool) (w : World) → place_at w s ≡ Some (Running v) → disk.copies ≡ cond b (with_row copy_key d.copy v.store.copies) v.store.copies → IsOf s d.says d.copy → CopiesAreTold c w →
    CopiesAreTold c (happened n [] (cond b (Shown d.says ∷ Shown (says.Stopped s how) ∷ []) (Shown (says.Stopped s how) ∷ [])) (stops_with s disk) w)
cut_case c n s v d disk how true w here e is g = write_event c n s (Running v) (Stopped disk) d [] (Shown (says.Stopped s how) ∷ []) (Shown d.says ∷ Shown (says.Stopped s how) ∷ []) [] (stops_with s disk) w here e is refl tt (tt, tt) (λ t. refl) g
cut_case c n s v d disk how false w here e is g = still_event c n s (Running v) (Stopped disk) (Shown (says.Stopped s how) ∷ []) [] (stops_with s disk) w here e (λ t. refl) (tt, tt) g

write_is : (s : ℕ) (v : SiteView) (o : Outcome SiteView) (d : DiskWrite) → o.written ≡ Some d → SiteDisk s v o → IsOf s d.says d.copy
write_is s v o d e (inl h) = absurd (no_write d (sym h.none ∙ e))
write_is s v o d e (inr h) = subst (λ (x : DiskWrite). IsOf s x.says x.copy) (some_same h.0 d (sym h.1.is_written ∙ e)) h.1.says_so

acts_told : (c : Config) (n s : ℕ) (v : SiteView) (o : Outcome SiteView) (w : World) → place_at w s ≡ Some (Running v) → SiteDisk s v o → CopiesAreTold c w → CopiesAreTold c (acts n s v o w)
acts_told c n s v o w here h g =
    acts_cases (CopiesAreTold c) n s v o w
    (runs_told c n s v o (λ now. now) w here h (λ t. refl) g)
    (λ a. runs_told c n s v o (arms a) w here h (λ t. refl) g)
    (λ d a e. cut_case c n s v d (cut_disk v.boot v.store d a.how a.left) (cause_of a.how) (is_on_disk v.store d a.how a.left) w here refl (write_is s v o d e h) g)

-- ---- a boot leaves the copies as they are ----

as_told : (c : Config) (n s : ℕ) (d : Disk) (b : Booted) (w : World) → place_at w s ≡ Some (Stopped d) → KeepsCopies d.copies b → CopiesAreTold c w → CopiesAreTold c (boots_as n s b w)
as_told c n s d (Whole x None) w here e g = still_event c n s (Stopped d) (Running (fresh x.label.boot x.copies)) (Shown (says.Up s x.label.boot) ∷ []) [] _ w here e (λ t. refl) (tt, tt) g
as_told c n s d (Whole x (Some a)) w here e g = still_event c n s (Stopped d) (Running (fresh x.label.boot x.copies)) (Shown (says.Up s x.label.boot) ∷ []) [] _ w here e (λ t. refl) (tt, tt) g
as_told c n s d (CutOff x how) w here e g = still_event c n s (Stopped d) (Stopped x) (Shown (says.Stopped s (cause_of how)) ∷ []) [] _ w here e (λ t. refl) (tt, tt) g

-- ---- every event and change ----

packets_still : (xs : List Numbered) → Every Still (map packet_record xs)
packets_still xs = every_map Still packet_record xs (λ x. tt)

pub told_kept : (c : Config) → Kept c (CopiesAreTold c)
told_kept c = record {
  steps = λ n s e v w here own g. acts_told c n s v (step c s (links_of w s) v e) w here (step_disk c s (links_of w s) v e) g;
  receives = λ n x v w here sent g. acts_told c n x.packet.to v (step c x.packet.to (links_of (passed x.number w) x.packet.to) v (Receives x.packet)) (passed x.number w) here (step_disk c x.packet.to (links_of (passed x.number w) x.packet.to) v (Receives x.packet)) (λ s key p at. g s key p at);
  passes = λ k w g s key p at. g s key p at;
  drops = λ k w g s key p at. g s key p at;
  recuts = λ xs w g s key p at. g s key p at;
  arming = λ a w g s key p at. g s key p at;
  voiding = λ n w g. quiet_event c n (Shown says.Void ∷ []) w (tt, tt) g;
  budgets = λ n w g. quiet_event c n (Shown says.Budget ∷ []) w (tt, tt) g;
  pending = λ n w g. quiet_event c n (map packet_record w.underway) w (packets_still w.underway) g;
  stopping = λ n s v w here g. still_event c n s (Running v) (Stopped (disk_of v)) (Shown (says.Stopped s cause.Asked) ∷ []) [] _ w here refl (λ t. refl) (tt, tt) g;
  booting = λ n s d w here g. as_told c n s d (boots (script_of w s) d) w here (boots_copies (script_of w s) d) g;
}

-- ---- the first world ----

pub first_told : (c : Config) → CopiesAreTold c (first_world c)
first_told c s key p here = first_places c (λ t q. row copy_key key (copies_on q) ≡ row copy_key key (formatted c t)) (λ t own. refl) s p here

pub run_copies : (c : Config) (lines : List ScheduleLine) → CopiesAreTold c (run_in c lines)
run_copies c lines = every_run c (CopiesAreTold c) (told_kept c) (first_told c) lines
