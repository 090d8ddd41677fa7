-- A serial number names one open, an instance is begun once, and what the storage sites begin is what was granted.
use Rattle.std.proofs.Common.{◌≡◌, ℕ, List, [], ◌∷◌, refl, sym, ◌∙◌, ap, subst, inl, inr}
use Rattle.locus_ids.specs.declared.ids.EpochId.{EpochId}
use Rattle.locus_ids.specs.declared.ids.FileId.{FileId}
use Rattle.locus_ids.specs.declared.ids.Serial.{Serial}
use Rattle.locus_ids.specs.declared.ids.Mode.{Mode}
use Rattle.locus_ids.specs.declared.ids.Mode.TheVariants as mode
use Rattle.locus_ids.specs.declared.sites.Members.{Members}
use Rattle.locus_ids.specs.declared.config.Config.{Config}
use Rattle.schedule_lines.specs.declared.line.ScheduleLine.{ScheduleLine}
use Rattle.trace_book.specs.declared.record.Record.{Record}
use Rattle.trace_book.specs.declared.record.Record.TheVariants as says
use Rattle.wire_messages.specs.declared.packet.Packet.{Packet}
use Rattle.wire_messages.specs.declared.body.Body.{Body}
use Rattle.wire_messages.specs.declared.body.Body.TheVariants as body
use Rattle.wire_messages.specs.declared.body.Opening.{Opening}
use Rattle.role_steps.specs.Own.{Every}
use Rattle.role_steps.specs.Views.{Told, Shown, Begins, serial_key}
use Rattle.role_steps.specs.Opens.{mode_of}
use Rattle.the_run.specs.Worlds.{World}
use Rattle.the_run.specs.Runs.{run_in}
use Rattle.the_run.specs.Kept.{Among}
use Rattle.run_laws.proofs.Run.{found_among}
use Rattle.site_laws.specs.Vectors.Written.{past_of, Begun, GrantedRecord, Granted as WasGrantedBy, WasTold, WasBegun, WasGranted, InstancesAgree}
use Rattle.site_laws.specs.Packs.InstanceBook.{Note, Asked, Placed, Began, Book, AskedBy, IsFor, BeganFact, Sound}
use Rattle.site_laws.specs.Packs.InstanceFacts.{BodyFact, MadeFact, GrantFact, RecordFact, ToldFact, NumberedFact, WorldFact, Booked}
use Rattle.site_laws.specs.Packs.InstanceLaws.{AsksOpen, SerialsAreOnce, AsksInstance, PlacesAreOnce, BegunOnce}
use Rattle.site_laws.proofs.Packs.InstanceBooks.{asked_once}
use Rattle.site_laws.proofs.Packs.InstanceInstancesRun.{run_booked}

-- ---- what was told ----

told_found : (P Q : Told → Type 0) (xs : List Told) → Every P xs → WasTold Q xs → (x : Told) × P x × Q x
told_found P Q [] h k = absurd k
told_found P Q (x ∷ xs) h (inl k) = (x, h.0, k)
told_found P Q (x ∷ xs) h (inr k) = told_found P Q xs h.1 k

-- the note of an instance that was begun
record Noted (book : Book) (e : EpochId) (key : ℕ) (file : FileId) : Type 0 where
  inst : Serial
  ss : ℕ
  boot : ℕ
  key_is : serial_key inst ≡ key
  began : Among (Began e inst ss boot file) book

begun_note : (book : Book) (e : EpochId) (key : ℕ) (file : FileId) (x : Told) → ToldFact book x → Begun e key file x → Noted book e key file
begun_note book e key file (Begins s at inst of) h k = record { inst = inst; ss = s; boot = h.0; key_is = k.1; began = subst (λ (g : FileId). Among (Began e inst s h.0 g) book) k.2 (subst (λ (i : EpochId). Among (Began i inst s h.0 of) book) k.0 h.1) }
begun_note book e key file _ h k = absurd k

-- the fact of a grant
record GrantNoted (book : Book) (e : EpochId) (key : ℕ) (file : FileId) : Type 0 where
  inst : Serial
  m : Mode
  key_is : serial_key inst ≡ key
  fact : GrantFact book e inst m file

grant_record_noted : (book : Book) (e : EpochId) (key : ℕ) (file : FileId) (r : Record) → RecordFact book r → GrantedRecord e key file r → GrantNoted book e key file
grant_record_noted book e key file (says.Grant at call request inst m of stamp ss) h k = record { inst = inst; m = m; key_is = k.1; fact = subst (λ (g : FileId). GrantFact book e inst m g) k.2 (subst (λ (i : EpochId). GrantFact book i inst m of) k.0 h.0) }
grant_record_noted book e key file _ h k = absurd k

grant_noted : (book : Book) (e : EpochId) (key : ℕ) (file : FileId) (x : Told) → ToldFact book x → WasGrantedBy e key file x → GrantNoted book e key file
grant_noted book e key file (Shown r) h k = grant_record_noted book e key file r h k
grant_noted book e key file _ h k = absurd k

noted_begun : (c : Config) (w : World) (g : Booked c w) (e : EpochId) (key : ℕ) (file : FileId) → WasBegun (past_of w.trace) e key file → Noted g.0 e key file
noted_begun c w g e key file h = let f : WorldFact c g.0 w = g.1 in let k : (x : Told) × ToldFact g.0 x × Begun e key file x = told_found (ToldFact g.0) (Begun e key file) (past_of w.trace) f.told h in begun_note g.0 e key file k.0 k.1 k.2

noted_granted : (c : Config) (w : World) (g : Booked c w) (e : EpochId) (key : ℕ) (file : FileId) → WasGranted (past_of w.trace) e key file → GrantNoted g.0 e key file
noted_granted c w g e key file h = let f : WorldFact c g.0 w = g.1 in let k : (x : Told) × ToldFact g.0 x × WasGrantedBy e key file x = told_found (ToldFact g.0) (WasGrantedBy e key file) (past_of w.trace) f.told h in grant_noted g.0 e key file k.0 k.1 k.2

begun_once : (c : Config) (w : World) → Booked c w → BegunOnce (past_of w.trace)
begun_once c w g e key f h a b =
    let p : Noted g.0 e key f = noted_begun c w g e key f a in
    let q : Noted g.0 e key h = noted_begun c w g e key h b in
    let world : WorldFact c g.0 w = g.1 in
    world.sound.once.began e p.inst q.inst p.ss p.boot q.ss q.boot f h (p.key_is ∙ sym q.key_is) p.began q.began

-- a file that is for the same open as another is that file, but for a make
same_for : (m : Mode) (a b asked : FileId) → (m ≡ mode.Make → a ≡ b) → IsFor m a asked → IsFor m b asked → a ≡ b
same_for mode.Make a b asked make h k = make refl
same_for mode.Read a b asked make h k = h ∙ sym k
same_for mode.Write a b asked make h k = h ∙ sym k
same_for mode.Resolve a b asked make h k = h ∙ sym k
same_for mode.Mend a b asked make h k = h ∙ sym k

agrees : (c : Config) (book : Book) (e : EpochId) (key : ℕ) (f h : FileId) → Sound c book → Noted book e key f → GrantNoted book e key h → f ≡ h
agrees c book e key f h s p q =
    let old : BeganFact book e p.inst p.ss p.boot f = s.notes (Began e p.inst p.ss p.boot f) p.began in
    let k : GrantFact book e q.inst q.m h = q.fact in
    let keys : serial_key p.inst ≡ serial_key q.inst = p.key_is ∙ sym q.key_is in
    let members : old.members ≡ k.members = s.once.listed e old.members k.members old.listed k.listed in
    let same : (old.file_asked ≡ k.file_asked) × (old.how ≡ k.how) = asked_once c book k.members p.inst q.inst old.file_asked k.file_asked old.how k.how s keys (subst (λ (m : Members). AskedBy book m p.inst old.file_asked old.how) members old.asked) k.asked in
    let for_mode : IsFor q.m f old.file_asked = subst (λ (m : Mode). IsFor m f old.file_asked) (ap mode_of same.1 ∙ k.mode_is) old.is_for in
    same_for q.m f h k.file_asked (λ make. made make k.made keys) (subst (λ (x : FileId). IsFor q.m f x) same.0 for_mode) k.is_for
  where
    made : q.m ≡ mode.Make → MadeFact book e q.inst h q.m → serial_key p.inst ≡ serial_key q.inst → f ≡ h
    made make m keys = by_make (subst (MadeFact book e q.inst h) make m)
      where
        by_make : MadeFact book e q.inst h mode.Make → f ≡ h
        by_make x = s.once.began e p.inst x.2 p.ss p.boot x.0 x.1 f h (keys ∙ sym x.3) p.began x.4

-- ---- the laws ----

pub run_agrees : (c : Config) (lines : List ScheduleLine) → InstancesAgree (past_of (run_in c lines).trace)
run_agrees c lines e key f h a b =
    let w : World = run_in c lines in
    let g : Booked c w = run_booked c lines in
    let world : WorldFact c g.0 w = g.1 in
    agrees c g.0 e key f h world.sound (noted_begun c w g e key f a) (noted_granted c w g e key h b)

pub run_begun_once : (c : Config) (lines : List ScheduleLine) → BegunOnce (past_of (run_in c lines).trace)
run_begun_once c lines = begun_once c (run_in c lines) (run_booked c lines)

asked_note : (book : Book) (p : Packet) (x : Body) (serial : ℕ) (file : FileId) (how : Opening) → BodyFact book p x → AsksOpen serial file how x → Among (Asked p.from p.from_boot serial file how) book
asked_note book p (body.Open number call process request asked opening) serial file how h k =
    subst (λ (n : Note). Among n book) (λ j. Asked p.from p.from_boot (k.0 j) (k.1 j) (k.2 j)) h
asked_note book p _ serial file how h k = absurd k

pub run_serials : (c : Config) (lines : List ScheduleLine) → SerialsAreOnce (run_in c lines)
run_serials c lines x y serial f g h i a b from boot p q =
    let w : World = run_in c lines in
    let k : Booked c w = run_booked c lines in
    let world : WorldFact c k.0 w = k.1 in
    let one : Among (Asked x.packet.from x.packet.from_boot serial f h) k.0 = asked_note k.0 x.packet x.packet.body serial f h (found_among (NumberedFact k.0) x w.sent world.packets a) p in
    let other : Among (Asked y.packet.from y.packet.from_boot serial g i) k.0 = asked_note k.0 y.packet y.packet.body serial g i (found_among (NumberedFact k.0) y w.sent world.packets b) q in
    world.sound.once.asked y.packet.from y.packet.from_boot serial f g h i (subst (λ (n : Note). Among n k.0) (λ j. Asked (from j) (boot j) serial f h) one) other

-- where an instance was placed
record PlacedNoted (book : Book) (p : Packet) (inst : Serial) : Type 0 where
  group : ℕ
  css : ℕ
  boot : ℕ
  placed : Among (Placed p.epoch inst group css boot p.to) book

placed_note : (book : Book) (p : Packet) (x : Body) (inst : Serial) → BodyFact book p x → AsksInstance inst x → PlacedNoted book p inst
placed_note book p (body.OpenSs asked file m set kind base vector parents) inst h k = record { group = file.group; css = h.css; boot = h.css_boot; placed = subst (λ (i : Serial). Among (Placed p.epoch i file.group h.css h.css_boot p.to) book) k h.placed }
placed_note book p _ inst h k = absurd k

pub run_places : (c : Config) (lines : List ScheduleLine) → PlacesAreOnce (run_in c lines)
run_places c lines x y a b at here epoch key p q =
    let w : World = run_in c lines in
    let k : Booked c w = run_booked c lines in
    let world : WorldFact c k.0 w = k.1 in
    let one : PlacedNoted k.0 x.packet a = placed_note k.0 x.packet x.packet.body a (found_among (NumberedFact k.0) x w.sent world.packets at) p in
    let other : PlacedNoted k.0 y.packet b = placed_note k.0 y.packet y.packet.body b (found_among (NumberedFact k.0) y w.sent world.packets here) q in
    world.sound.once.placed y.packet.epoch a b one.group one.css one.boot x.packet.to other.group other.css other.boot y.packet.to key
    (subst (λ (e : EpochId). Among (Placed e a one.group one.css one.boot x.packet.to) k.0) epoch one.placed) other.placed
