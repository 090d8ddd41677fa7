-- What was asked of one instance is asked alike, by the book: changes are of writers, and opens are as they were granted.
use Rattle.std.proofs.Common.{◌≡◌, ℕ, false, List, refl, sym, ◌∙◌, ap, subst}
use Rattle.locus_ids.specs.declared.ids.EpochId.{EpochId}
use Rattle.locus_ids.specs.declared.ids.FileId.{FileId}
use Rattle.locus_ids.specs.declared.ids.Serial.{Serial}
use Rattle.locus_ids.specs.declared.ids.Mode.{Mode}
use Rattle.locus_ids.specs.declared.ids.Mode.TheVariants as mode
use Rattle.locus_ids.specs.declared.sites.Members.{Members}
use Rattle.locus_ids.specs.declared.config.Config.{Config}
use Rattle.commit_graph.specs.Grants.{is_read}
use Rattle.schedule_lines.specs.declared.line.ScheduleLine.{ScheduleLine}
use Rattle.trace_book.specs.declared.record.Record.{Record}
use Rattle.trace_book.specs.declared.record.Record.TheVariants as says
use Rattle.wire_messages.specs.declared.packet.Packet.{Packet}
use Rattle.wire_messages.specs.declared.body.Body.{Body}
use Rattle.wire_messages.specs.declared.body.Body.TheVariants as body
use Rattle.wire_messages.specs.declared.body.Opening.{Opening}
use Rattle.wire_messages.specs.declared.body.Opening.TheVariants as how
use Rattle.role_steps.specs.Opens.{mode_of}
use Rattle.role_steps.specs.Views.{Told, Shown, boot_in, serial_key}
use Rattle.the_run.specs.Joins.{IsJoinRecord, IsJoin}
use Rattle.the_run.specs.Kept.{Among}
use Rattle.the_run.specs.Steps.{from_user}
use Rattle.the_run.specs.Worlds.{World, Numbered}
use Rattle.the_run.specs.Runs.{run_in}
use Rattle.run_laws.proofs.Run.{found_among}
use Rattle.site_laws.specs.Vectors.Written.{past_of}
use Rattle.site_laws.specs.Packs.InstanceBook.{Listed, Asked, Book, AskedBy, IsFor}
use Rattle.site_laws.specs.Packs.InstanceFacts.{BodyFact, GrantFact, RecordFact, ToldFact, NumberedFact, WorldFact, Booked}
use Rattle.site_laws.proofs.Packs.InstanceBooks.{asked_once}
use Rattle.site_laws.proofs.Packs.InstanceInstancesRun.{run_booked}
use Rattle.site_laws.specs.Locks.Joins.{WasJoined}
use Rattle.site_laws.specs.Locks.Locks.{IsOfAFile}
use Rattle.site_laws.proofs.Locks.JoinsRun.{run_joins_once}
use Rattle.site_laws.specs.Packs.WriterAsking.{NotToRead, AsksToWrite, IsAskedToWrite}
use Rattle.site_laws.proofs.Packs.WriterAsksRun.{run_changes}
use Rattle.site_laws.proofs.Packs.WriterGranting.{told_found, GrantNoted, grant_noted}
use Rattle.site_laws.specs.Makes.RunningStores.{AsksIn}
use Rattle.site_laws.specs.Makes.RunningRunning.{OpensAreAsGranted}
use Rattle.site_laws.proofs.Makes.RunningStand.{ChangesAreOfWriters}
use Rattle.site_laws.proofs.Makes.RunningStandRun.{Orderly}

-- ---- what the book has of what was told and sent ----

join_record : (book : Book) (s : ℕ) (e : EpochId) (m : Members) (r : Record) → RecordFact book r → IsJoinRecord s e m r → Among (Listed e m) book
join_record book s e m (says.Join t i n) h k = subst (λ (x : Members). Among (Listed e x) book) k.2 (subst (λ (x : EpochId). Among (Listed x n) book) k.1 h)
join_record book s e m _ h k = absurd k

join_told : (book : Book) (s : ℕ) (e : EpochId) (m : Members) (x : Told) → ToldFact book x → IsJoin s e m x → Among (Listed e m) book
join_told book s e m (Shown r) h k = join_record book s e m r h k
join_told book s e m _ h k = absurd k

-- the members of an epoch that a site has joined are listed
pub joined_listed : (c : Config) (w : World) (g : Booked c w) (s : ℕ) (e : EpochId) (m : Members) → WasJoined (past_of w.trace) s e m → Among (Listed e m) g.0
joined_listed c w g s e m h =
    let world : WorldFact c g.0 w = g.1 in
    let k : (x : Told) × ToldFact g.0 x × IsJoin s e m x = told_found (ToldFact g.0) (IsJoin s e m) (past_of w.trace) world.told h in
    join_told g.0 s e m k.0 k.1 k.2

-- an instance that was asked for, by the book
pub record OpenNoted (book : Book) (e : EpochId) (key : ℕ) (m : Mode) (file : FileId) : Type 0 where
  pub inst : Serial
  pub key_is : serial_key inst ≡ key
  pub members : Members
  pub listed : Among (Listed e members) book
  pub asked_file : FileId
  pub how : Opening
  pub asked : AskedBy book members inst asked_file how
  pub mode_is : mode_of how ≡ m
  pub is_for : IsFor m file asked_file

body_noted : (book : Book) (p : Packet) (b : Body) (key : ℕ) (m : Mode) (file : FileId) → BodyFact book p b → AsksIn key m file b → OpenNoted book p.epoch key m file
body_noted book p (body.OpenSs inst asked n set kind base vector parents) key m file h k = record { inst = inst; key_is = k.0; members = h.members; listed = h.listed; asked_file = asked; how = h.how; asked = h.asked; mode_is = h.mode_is ∙ k.1; is_for = k.2 }
body_noted book p _ key m file h k = absurd k

pub open_noted : (c : Config) (w : World) (g : Booked c w) (y : Numbered) (key : ℕ) (m : Mode) (file : FileId) → Among y w.sent → AsksIn key m file y.packet.body → OpenNoted g.0 y.packet.epoch key m file
open_noted c w g y key m file a k = let world : WorldFact c g.0 w = g.1 in body_noted g.0 y.packet y.packet.body key m file (found_among (NumberedFact g.0) y w.sent world.packets a) k

-- an open that was asked to write
record WriteNoted (book : Book) (from boot serial : ℕ) : Type 0 where
  file : FileId
  how : Opening
  asked : Among (Asked from boot serial file how) book
  writes : NotToRead how

write_noted : (book : Book) (p : Packet) (b : Body) (serial : ℕ) → BodyFact book p b → AsksToWrite serial b → WriteNoted book p.from p.from_boot serial
write_noted book p (body.Open number call process request file opening) serial h k = record { file = file; how = opening; asked = subst (λ (n : ℕ). Among (Asked p.from p.from_boot n file opening) book) k.0 h; writes = k.1 }
write_noted book p _ serial h k = absurd k

-- ---- changes are of writers ----

not_to_read : (h : Opening) → NotToRead h → is_read (mode_of h) ≡ false
not_to_read how.Read k = absurd k
not_to_read how.Write k = refl
not_to_read (how.Resolve site) k = refl
not_to_read how.Mend k = refl
not_to_read (how.Make set kind) k = refl

pub run_writers : (c : Config) (lines : List ScheduleLine) → ChangesAreOfWriters (run_in c lines).sent (past_of (run_in c lines).trace)
run_writers c lines x y serial t members m file a b change asks same joined boot =
    let w : World = run_in c lines in
    let g : Booked c w = run_booked c lines in
    let world : WorldFact c g.0 w = g.1 in
    let r : IsAskedToWrite w.sent x.packet.from x.packet.from_boot serial = run_changes c lines x serial a change in
    let q : WriteNoted g.0 r.opening.packet.from r.opening.packet.from_boot serial = write_noted g.0 r.opening.packet r.opening.packet.body serial (found_among (NumberedFact g.0) r.opening w.sent world.packets r.was_sent) r.asks in
    let n : OpenNoted g.0 y.packet.epoch (serial_key (from_user x.packet.from serial)) m file = open_noted c w g y (serial_key (from_user x.packet.from serial)) m file b asks in
    let listed : Among (Listed y.packet.epoch members) g.0 = subst (λ (e : EpochId). Among (Listed e members) g.0) same (joined_listed c w g t x.packet.epoch members joined) in
    let one : n.members ≡ members = world.sound.once.listed y.packet.epoch n.members members n.listed listed in
    let wrote : Among (Asked x.packet.from (boot_in members.boot x.packet.from) serial q.file q.how) g.0 = subst (λ (d : ℕ). Among (Asked x.packet.from d serial q.file q.how) g.0) (r.boot_is ∙ sym boot) (subst (λ (s : ℕ). Among (Asked s r.opening.packet.from_boot serial q.file q.how) g.0) r.site_is q.asked) in
    let alike : (n.asked_file ≡ q.file) × (n.how ≡ q.how) = asked_once c g.0 members n.inst (from_user x.packet.from serial) n.asked_file q.file n.how q.how world.sound n.key_is (subst (λ (u : Members). AskedBy g.0 u n.inst n.asked_file n.how) one n.asked) wrote in
    subst (λ (z : Mode). is_read z ≡ false) n.mode_is (subst (λ (h : Opening). is_read (mode_of h) ≡ false) (sym alike.1) (not_to_read q.how q.writes))

-- the premises of the stores
pub run_orderly : (c : Config) (lines : List ScheduleLine) → Orderly (run_in c lines)
run_orderly c lines = (run_joins_once c lines, run_writers c lines)

-- ---- opens are as they were granted ----

plain_for : (m : Mode) (a b asked : FileId) → IsOfAFile m → IsFor m a asked → IsFor m b asked → a ≡ b
plain_for mode.Make a b asked plain h k = absurd plain
plain_for mode.Read a b asked plain h k = h ∙ sym k
plain_for mode.Write a b asked plain h k = h ∙ sym k
plain_for mode.Resolve a b asked plain h k = h ∙ sym k
plain_for mode.Mend a b asked plain h k = h ∙ sym k

pub run_as_granted : (c : Config) (lines : List ScheduleLine) → OpensAreAsGranted (run_in c lines)
run_as_granted c lines y key m n asked file a asks granted =
    let w : World = run_in c lines in
    let g : Booked c w = run_booked c lines in
    let world : WorldFact c g.0 w = g.1 in
    let asking : OpenNoted g.0 y.packet.epoch key m asked = open_noted c w g y key m asked a asks in
    let grant : GrantNoted g.0 y.packet.epoch key file n = grant_noted c w g y.packet.epoch key file n granted in
    let given : GrantFact g.0 y.packet.epoch grant.inst n file = grant.fact in
    let one : asking.members ≡ given.members = world.sound.once.listed y.packet.epoch asking.members given.members asking.listed given.listed in
    let alike : (asking.asked_file ≡ given.file_asked) × (asking.how ≡ given.how) = asked_once c g.0 given.members asking.inst grant.inst asking.asked_file given.file_asked asking.how given.how world.sound (asking.key_is ∙ sym grant.key_is) (subst (λ (u : Members). AskedBy g.0 u asking.inst asking.asked_file asking.how) one asking.asked) given.asked in
    let modes : m ≡ n = sym asking.mode_is ∙ (ap mode_of alike.1 ∙ given.mode_is) in
    (modes, λ plain. plain_for n asked file given.file_asked plain (subst (λ (f : FileId). IsFor n asked f) alike.0 (subst (λ (x : Mode). IsFor x asked asking.asked_file) modes asking.is_for)) given.is_for)
