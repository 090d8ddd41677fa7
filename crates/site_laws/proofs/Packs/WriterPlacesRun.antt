-- In every run a plain grant names the storage site that begins the instance.
use Rattle.std.proofs.Common.{◌≡◌, ℕ, ◌+◌, Bool, true, false, cond, List, [], ◌∷◌, map, Some, None, refl, sym, ◌∙◌, subst}
use Rattle.locus_ids.specs.declared.ids.EpochId.{EpochId}
use Rattle.locus_ids.specs.declared.ids.FileId.{FileId}
use Rattle.locus_ids.specs.declared.ids.Serial.{Serial}
use Rattle.locus_ids.specs.declared.config.Config.{Config}
use Rattle.schedule_lines.specs.declared.line.ScheduleLine.{ScheduleLine}
use Rattle.trace_book.specs.declared.record.Record.{Record}
use Rattle.trace_book.specs.declared.record.Record.TheVariants as says
use Rattle.trace_book.specs.declared.record.StopCause.{StopCause}
use Rattle.trace_book.specs.declared.record.StopCause.TheVariants as cause
use Rattle.wire_messages.specs.declared.packet.Packet.{Packet}
use Rattle.wire_messages.specs.declared.body.Body.{Body}
use Rattle.wire_messages.specs.declared.body.Body.TheVariants as body
use Rattle.role_steps.specs.Own.{Every}
use Rattle.role_steps.specs.Views.{SiteView, Told, Shown, Begins, DiskWrite, Outcome, Receives, serial_key}
use Rattle.role_steps.proofs.Sending.{every_map}
use Rattle.the_run.specs.Disks.{Booted, Whole, CutOff, boots, cut_disk, is_on_disk}
use Rattle.the_run.specs.Steps.{step}
use Rattle.the_run.specs.Worlds.{World, Running, Numbered, links_of, script_of, happened, cut_told, newest_onto, numbered_from, disk_of, puts, arms, passed, stops_with, cause_of, acts}
use Rattle.the_run.specs.Runs.{boots_as, packet_record, run_in}
use Rattle.the_run.specs.Kept.{Among, Kept}
use Rattle.the_run.proofs.Boots.{acts_cases, every_weaker}
use Rattle.the_run.proofs.Events.{happened_keeps}
use Rattle.the_run.proofs.Runs.{every_run}
use Rattle.run_laws.proofs.Run.{found_among}
use Rattle.site_laws.specs.Vectors.Written.{past_of}
use Rattle.site_laws.specs.Vectors.Facts.{onto}
use Rattle.site_laws.proofs.Vectors.FactsRun.{past_onto}
use Rattle.site_laws.specs.Packs.InstanceBook.{Began, Placed, Book, BeganFact}
use Rattle.site_laws.specs.Packs.InstanceFacts.{BodyFact, NumberedFact, ToldFact, WorldFact, Booked}
use Rattle.site_laws.proofs.Packs.InstanceInstancesRun.{run_booked}
use Rattle.site_laws.specs.Locks.Going.{BegunAt}
use Rattle.site_laws.proofs.Locks.GrantTold.{Bare}
use Rattle.site_laws.proofs.Locks.BareRoles.{BareWrite}
use Rattle.site_laws.specs.Packs.WriterGranting.{GrantedThereRecord, GrantedThere, GrantsNameTheirSite, Places, NotedBody, Noted, PlacedRecord, PlacedTold, AsksKey, IsPlaced}
use Rattle.site_laws.proofs.Packs.WriterAsksRun.{Leads, newest_leads, newest_has, numbered_all}
use Rattle.site_laws.proofs.Packs.WriterGranting.{told_found}
use Rattle.site_laws.proofs.Packs.WriterSitePlaces.{bares, Tells, step_tells}

-- ---- by the packets that were sent ----

abbrev placed_by : List Numbered → Places
placed_by sent e key ss = IsPlaced sent e key ss

placed_later : (old new : List Numbered) → Leads old new → (e : EpochId) (key ss : ℕ) → IsPlaced old e key ss → IsPlaced new e key ss
placed_later old new l e key ss h = record { opening = h.opening; was_sent = l h.opening h.was_sent; epoch_is = h.epoch_is; to_is = h.to_is; asks = h.asks }

record_later : (old new : List Numbered) → Leads old new → (r : Record) → PlacedRecord (placed_by old) r → PlacedRecord (placed_by new) r
record_later old new l (says.Grant e call request inst m file stamp ss) h = λ it. placed_later old new l e (serial_key inst) ss (h it)
record_later old new l _ h = tt

told_later : (old new : List Numbered) → Leads old new → (x : Told) → PlacedTold (placed_by old) x → PlacedTold (placed_by new) x
told_later old new l (Shown r) h = record_later old new l r h
told_later old new l _ h = tt

all_later : (old new : List Numbered) → Leads old new → (xs : List Told) → Every (PlacedTold (placed_by old)) xs → Every (PlacedTold (placed_by new)) xs
all_later old new l xs h = every_weaker (PlacedTold (placed_by old)) (PlacedTold (placed_by new)) xs (told_later old new l) h

noted_body : (sent : List Numbered) (x : Numbered) (b : Body) → x.packet.body ≡ b → Among x sent → NotedBody (placed_by sent) x.packet.epoch x.packet.to b
noted_body sent x (body.OpenSs inst file m set kind base vector parents) e k = record { opening = x; was_sent = k; epoch_is = refl; to_is = refl; asks = subst (AsksKey (serial_key inst)) (sym e) refl }
noted_body sent x _ e k = tt

-- ---- the world ----

abbrev PlacedWorld : World → Type 0
PlacedWorld w = Every (PlacedTold (placed_by w.sent)) (past_of w.trace)

every_onto : (P : Told → Type 0) (told past : List Told) → Every P told → Every P past → Every P (onto told past)
every_onto P [] past h g = g
every_onto P (x ∷ xs) past h g = every_onto P xs (x ∷ past) h.1 (h.0, g)

happened_placed : (n : ℕ) (ps : List Packet) (told : List Told) (change : World → World) (w : World) → (change w).sent ≡ w.sent → Every (PlacedTold (placed_by (newest_onto (numbered_from (w.packets + 1) ps) w.sent))) told → PlacedWorld w → PlacedWorld (happened n ps told change w)
happened_placed n ps told change w sent h g =
    happened_keeps PlacedWorld n ps told change w g
    (λ l. g)
    (λ k b t. subst (λ (xs : List Told). Every (PlacedTold (placed_by (newest_onto new (change w).sent))) xs) (sym (past_onto n told w.trace))
    (subst (λ (xs : List Numbered). Every (PlacedTold (placed_by (newest_onto new xs))) (onto told (past_of w.trace))) (sym sent)
    (every_onto (PlacedTold (placed_by now)) told (past_of w.trace) h (all_later w.sent now (newest_leads new w.sent) (past_of w.trace) g))))
  where
    new : List Numbered
    new = numbered_from (w.packets + 1) ps

    now : List Numbered
    now = newest_onto new w.sent

bare_placed : (n : ℕ) (told : List Told) (change : World → World) (w : World) → (change w).sent ≡ w.sent → Every Bare told → PlacedWorld w → PlacedWorld (happened n [] told change w)
bare_placed n told change w sent h g = happened_placed n [] told change w sent (bares (placed_by w.sent) told h) g

cut_bare : (s : ℕ) (d : DiskWrite) (how : StopCause) (b : Bool) → BareWrite (Some d) → Every Bare (cond b (Shown d.says ∷ Shown (says.Stopped s how) ∷ []) (Shown (says.Stopped s how) ∷ []))
cut_bare s d how true h = (h, (tt, tt))
cut_bare s d how false h = (tt, tt)

acts_placed : (n s : ℕ) (v : SiteView) (o : Outcome SiteView) (w : World) → ((P : Places) → Every (Noted P) o.sent → Tells P o) → PlacedWorld w → PlacedWorld (acts n s v o w)
acts_placed n s v o w tells g =
    acts_cases PlacedWorld n s v o w
    (happened_placed n o.sent o.told (λ now. puts s (Running o.view) now) w refl fine.told g)
    (λ a. happened_placed n o.sent o.told (λ now. puts s (Running o.view) (arms a now)) w refl fine.told g)
    (λ d a e. bare_placed n (cut_told s v.store d a.how a.left) (stops_with s (cut_disk v.boot v.store d a.how a.left)) w refl (cut_bare s d (cause_of a.how) (is_on_disk v.store d a.how a.left) (subst BareWrite e fine.written)) g)
  where
    new : List Numbered
    new = numbered_from (w.packets + 1) o.sent

    fine : Tells (placed_by (newest_onto new w.sent)) o
    fine = tells (placed_by (newest_onto new w.sent)) (numbered_all (Noted (placed_by (newest_onto new w.sent))) (w.packets + 1) o.sent (λ x m. noted_body (newest_onto new w.sent) x x.packet.body refl (newest_has new w.sent x m)))

as_placed : (n s : ℕ) (b : Booted) (w : World) → PlacedWorld w → PlacedWorld (boots_as n s b w)
as_placed n s (Whole x None) w g = bare_placed n (Shown (says.Up s x.label.boot) ∷ []) _ w refl (tt, tt) g
as_placed n s (Whole x (Some a)) w g = bare_placed n (Shown (says.Up s x.label.boot) ∷ []) _ w refl (tt, tt) g
as_placed n s (CutOff x how) w g = bare_placed n (Shown (says.Stopped s (cause_of how)) ∷ []) (stops_with s x) w refl (tt, tt) g

places_kept : (c : Config) → Kept c PlacedWorld
places_kept c = record {
  steps = λ n s e v w here own g. acts_placed n s v (step c s (links_of w s) v e) w (λ P noted. step_tells P c s (links_of w s) v e noted) g;
  receives = λ n x v w here sent g. acts_placed n x.packet.to v (step c x.packet.to (links_of (passed x.number w) x.packet.to) v (Receives x.packet)) (passed x.number w) (λ P noted. step_tells P c x.packet.to (links_of (passed x.number w) x.packet.to) v (Receives x.packet) noted) g;
  passes = λ k w g. g;
  drops = λ k w g. g;
  recuts = λ xs w g. g;
  arming = λ a w g. g;
  voiding = λ n w g. bare_placed n (Shown says.Void ∷ []) (λ now. now) w refl (tt, tt) g;
  budgets = λ n w g. bare_placed n (Shown says.Budget ∷ []) (λ now. now) w refl (tt, tt) g;
  pending = λ n w g. bare_placed n (map packet_record w.underway) (λ now. now) w refl (every_map Bare packet_record w.underway (λ x. tt)) g;
  stopping = λ n s v w here g. bare_placed n (Shown (says.Stopped s cause.Asked) ∷ []) (stops_with s (disk_of v)) w refl (tt, tt) g;
  booting = λ n s d w here g. as_placed n s (boots (script_of w s) d) w g;
}

run_placed : (c : Config) (lines : List ScheduleLine) → PlacedWorld (run_in c lines)
run_placed c lines = every_run c PlacedWorld (places_kept c) tt lines

-- ---- the book ----

-- where an instance of a key was placed, by the book
record KeyPlaced (book : Book) (e : EpochId) (key ss : ℕ) : Type 0 where
  inst : Serial
  key_is : serial_key inst ≡ key
  group : ℕ
  css : ℕ
  boot : ℕ
  placed : Among (Placed e inst group css boot ss) book

packet_placed : (book : Book) (p : Packet) (b : Body) (key : ℕ) → BodyFact book p b → AsksKey key b → KeyPlaced book p.epoch key p.to
packet_placed book p (body.OpenSs inst file m set kind base vector parents) key h k = record { inst = inst; key_is = k; group = file.group; css = h.css; boot = h.css_boot; placed = h.placed }
packet_placed book p _ key h k = absurd k

begun_placed : (c : Config) (w : World) (g : Booked c w) (e : EpochId) (key s : ℕ) (file : FileId) (x : Told) → ToldFact g.0 x → BegunAt s e key file x → KeyPlaced g.0 e key s
begun_placed c w g e key s file (Begins t at inst of) h k =
    let world : WorldFact c g.0 w = g.1 in
    let b : BeganFact g.0 at inst t h.0 of = world.sound.notes (Began at inst t h.0 of) h.1 in
    record { inst = inst; key_is = k.2; group = b.file_asked.group; css = b.css; boot = b.css_boot; placed = subst (λ (n : ℕ). Among (Placed e inst b.file_asked.group b.css b.css_boot n) g.0) k.0 (subst (λ (i : EpochId). Among (Placed i inst b.file_asked.group b.css b.css_boot t) g.0) k.1 b.placed) }
begun_placed c w g e key s file _ h k = absurd k

grant_record : (P : Places) (e : EpochId) (key ss : ℕ) (r : Record) → PlacedRecord P r → GrantedThereRecord e key ss r → P e key ss
grant_record P e key ss (says.Grant at call request inst m file stamp there) h k = subst (P e key) k.2 (subst (λ (n : ℕ). P e n there) k.1 (subst (λ (i : EpochId). P i (serial_key inst) there) k.0 (h k.3)))
grant_record P e key ss _ h k = absurd k

grant_told : (P : Places) (e : EpochId) (key ss : ℕ) (x : Told) → PlacedTold P x → GrantedThere e key ss x → P e key ss
grant_told P e key ss (Shown r) h k = grant_record P e key ss r h k
grant_told P e key ss _ h k = absurd k

pub run_sites : (c : Config) (lines : List ScheduleLine) → GrantsNameTheirSite (past_of (run_in c lines).trace)
run_sites c lines e key s ss file a b =
    let w : World = run_in c lines in
    let g : Booked c w = run_booked c lines in
    let world : WorldFact c g.0 w = g.1 in
    let p : (x : Told) × ToldFact g.0 x × BegunAt s e key file x = told_found (ToldFact g.0) (BegunAt s e key file) (past_of w.trace) world.told a in
    let q : (x : Told) × PlacedTold (placed_by w.sent) x × GrantedThere e key ss x = told_found (PlacedTold (placed_by w.sent)) (GrantedThere e key ss) (past_of w.trace) (run_placed c lines) b in
    let one : KeyPlaced g.0 e key s = begun_placed c w g e key s file p.0 p.1 p.2 in
    let r : IsPlaced w.sent e key ss = grant_told (placed_by w.sent) e key ss q.0 q.1 q.2 in
    let at : KeyPlaced g.0 r.opening.packet.epoch key r.opening.packet.to = packet_placed g.0 r.opening.packet r.opening.packet.body key (found_among (NumberedFact g.0) r.opening w.sent world.packets r.was_sent) r.asks in
    let other : KeyPlaced g.0 e key ss = subst (KeyPlaced g.0 e key) r.to_is (subst (λ (i : EpochId). KeyPlaced g.0 i key r.opening.packet.to) r.epoch_is at) in
    world.sound.once.placed e one.inst other.inst one.group one.css one.boot s other.group other.css other.boot ss (one.key_is ∙ sym other.key_is) one.placed other.placed
