-- What each packet carries stays when a line is added that comes as it may.
use Rattle.std.proofs.Common.{◌≡◌, ℕ, ◌==◌, Bool, true, false, ◌&&◌, ◌||◌, List, [], ◌∷◌, Option, ◌⊎◌, inl, inr, refl}
use Rattle.locus_ids.specs.declared.config.Config.{Config}
use Rattle.locus_ids.specs.declared.ids.EpochId.{EpochId}
use Rattle.locus_ids.specs.declared.ids.FileId.{FileId}
use Rattle.locus_ids.specs.declared.ids.Kind.{Kind}
use Rattle.locus_ids.specs.declared.ids.Mode.{Mode}
use Rattle.locus_ids.specs.declared.ids.Mode.TheVariants as mode
use Rattle.locus_ids.specs.declared.ids.Serial.{Serial}
use Rattle.locus_ids.specs.declared.ids.Stamp.{Stamp}
use Rattle.locus_ids.specs.declared.sites.Sites.{Sites}
use Rattle.trace_book.specs.Same.{same_epoch}
use Rattle.trace_book.specs.declared.operation.Op.{Op}
use Rattle.trace_book.specs.declared.operation.What.{What}
use Rattle.trace_book.specs.declared.record.Record.{Record}
use Rattle.trace_book.specs.declared.record.Record.TheVariants as says
use Rattle.call_rules.specs.declared.answer.Answer.{Answer}
use Rattle.the_run.specs.of_wire_messages.declared.body.Body.{Body}
use Rattle.the_run.specs.of_wire_messages.declared.body.Body.TheVariants as body
use Rattle.the_run.specs.of_wire_messages.declared.body.Granted.{Granted}
use Rattle.the_run.specs.of_wire_messages.declared.body.Granted.TheVariants as granted
use Rattle.the_run.specs.of_wire_messages.declared.body.LookAnswer.{LookAnswer}
use Rattle.the_run.specs.of_wire_messages.declared.body.MadeVersion.{MadeVersion}
use Rattle.the_run.specs.of_wire_messages.declared.body.OpenedAs.{OpenedAs}
use Rattle.the_run.specs.of_wire_messages.declared.body.OpenedAs.TheVariants as opened
use Rattle.the_run.specs.of_wire_messages.declared.packet.Packet.{Packet}
use Rattle.the_run.specs.of_role_steps.Reports.{stamp_made}
use Rattle.the_run.specs.of_role_steps.Views.{Told, Shown}
use Rattle.the_run.specs.Worlds.{Line}
use Rattle.lawful_trace.specs.of_tree_model.Epochs.{has_joined}
use Rattle.lawful_trace.specs.of_tree_model.Folds.{Trace}
use Rattle.tree_laws.specs.Past.{WasReleasedWith}
use Rattle.tree_laws.specs.Following.{MayTell, IsFollowed}
use Rattle.tree_laws.specs.Frames.{VersionsStay, OwnersStay, AllStay}
use Rattle.tree_laws.specs.Printed.{entries}
use Rattle.tree_laws.specs.Packets.{ServeFact, LookDoneFact, OpenSsFact, OpenedFact, OpenDoneFact, OpFact, EndsNow, ClosedFact, BodyFact, PacketFact}
use Rattle.tree_laws.proofs.CarriedActs.{op_told}
use Rattle.tree_laws.proofs.CarriedCloses.{close_stays, ends_stay}
use Rattle.tree_laws.proofs.CarriedLooks.{More, call_of_stays, look_stays}
use Rattle.tree_laws.proofs.CarriedOpens.{open_stays}
use Rattle.tree_laws.proofs.CarriedSizes.{begun_size_stays, size_stays}
use Rattle.tree_laws.proofs.Kinship.{started_stays}
use Rattle.tree_laws.proofs.Making.{makes_stay}
use Rattle.tree_laws.proofs.Owing.{commits_owe}
use Rattle.tree_laws.proofs.Seeing.{owners_stay}
use Rattle.tree_laws.proofs.Versions.{versions_stay}
use Rattle.tree_laws.proofs.CarriedVersions.{joins_stay, plain_stays, sees_stay, answers_stay, maybe_stays, notify_stays, page_stays}

-- who has joined an epoch has joined it
joined_record : (n : ℕ) (r : Record) (before : Trace) (site : ℕ) (e : EpochId) → has_joined before site e ≡ true → has_joined (record { line = n; what = r } ∷ before) site e ≡ true
joined_record n (says.Join s d m) before site e k = over ((s == site) && same_epoch d e)
  where
    over : (b : Bool) → (b || has_joined before site e) ≡ true
    over true = refl
    over false = k
joined_record n _ before site e k = k

pub joined_stays : (n : ℕ) (x : Told) (older : List Line) (site : ℕ) (e : EpochId) → has_joined (entries older) site e ≡ true → has_joined (entries (More n x older)) site e ≡ true
joined_stays n (Shown r) older site e k = joined_record n r (entries older) site e k
joined_stays n _ older site e k = k

module _ (c : Config) (n : ℕ) (x : Told) (older : List Line) (h : IsFollowed c older) (may : MayTell c older x) (stay : AllStay c older (More n x older) x) where
  versions : VersionsStay c older (More n x older)
  versions = versions_stay c n x older h may stay.fresh stay.order

  owners : OwnersStay c older (More n x older)
  owners = owners_stay c n x older h may versions

  serve_stays : (e : EpochId) (us k process request times : ℕ) (f : FileId) (w : What) (stamp : Stamp) → ServeFact older e us k process request times f w stamp → ServeFact (More n x older) e us k process request times f w stamp
  serve_stays e us k process request times f w stamp s = record { call = s.call; is_call = call_of_stays c n x older h may e us k process s.call s.is_call; looked_so = inr s.looked_so }

  look_done_stays : (e : EpochId) (us boot k request times : ℕ) (a : LookAnswer) → LookDoneFact c older e us boot k request times a → LookDoneFact c (More n x older) e us boot k request times a
  look_done_stays e us boot k request times a l = record { call = l.call; call_is = l.call_is; file = l.file; what = l.what; result = l.result; looked_so = inr l.looked_so; answer = answers_stay c older (More n x older) versions l.file l.what l.result a l.answer }

  open_ss_stays : (e : EpochId) (ss : ℕ) (i : Serial) (f : FileId) (m : Mode) (set : Sites) (k : Kind) (base : Stamp) (vector : List ℕ) (parents : List Stamp) → OpenSsFact c older e ss i f m set k base vector parents → OpenSsFact c (More n x older) e ss i f m set k base vector parents
  open_ss_stays e ss i f mode.Make set k base vector parents o = ((makes_stay c n x older h may versions).opens e ss i f.group set k o.0, o.1, joins_stay c older (More n x older) versions f [] vector o.2)
  open_ss_stays e ss i f mode.Read set k base vector parents o = plain_stays c n x older versions e ss i f mode.Read set k base vector parents o
  open_ss_stays e ss i f mode.Write set k base vector parents o = plain_stays c n x older versions e ss i f mode.Write set k base vector parents o
  open_ss_stays e ss i f mode.Resolve set k base vector parents o = plain_stays c n x older versions e ss i f mode.Resolve set k base vector parents o
  open_ss_stays e ss i f mode.Mend set k base vector parents o = plain_stays c n x older versions e ss i f mode.Mend set k base vector parents o

  opened_stays : (e : EpochId) (ss : ℕ) (i : Serial) (a : OpenedAs) → OpenedFact c older e ss i a → OpenedFact c (More n x older) e ss i a
  opened_stays e ss i (opened.Open ino size) o = (o.0, inr o.1, o.2, begun_size_stays c n x older h may versions e ss i o.0 size o.1 o.3)
  opened_stays e ss i (opened.No why) o = (o.0, (makes_stay c n x older h may versions).none e ss i o.1)

  open_done_stays : (e : EpochId) (us serial : ℕ) (a : Granted) → OpenDoneFact c older e us serial a → OpenDoneFact c (More n x older) e us serial a
  open_done_stays e us serial (granted.Open ss ino size stamp vector) o = record { call = o.call; request = o.request; mode = o.mode; file = o.file; stamp = o.stamp; was_granted = inr o.was_granted; number_is = o.number_is; told_is = o.told_is; sees = sees_stay c older (More n x older) versions o.file o.mode o.stamp vector o.sees; sized = size_stays c older (More n x older) versions o.file o.mode o.stamp size o.sized }
  open_done_stays e us serial (granted.No why) o = (o.0, o.1, o.2, inr o.3)

  op_stays : (e : EpochId) (ss : ℕ) (i : Serial) (k : ℕ) (o : Op) (seen : List ℕ) → OpFact c older e ss i k o seen → OpFact c (More n x older) e ss i k o seen
  op_stays e ss i k o seen (inl done) = inl (done.0, inr done.1)
  op_stays e ss i k o seen (inr now) = op_told c n x older h may owners e ss i k o seen now

  closed_stays : (e : EpochId) (ss : ℕ) (i : Serial) (made : Option MadeVersion) → ClosedFact c older e ss i made → ClosedFact c (More n x older) e ss i made
  closed_stays e ss i made k = record { ends = over k.ends; version = maybe_stays c n x older versions e ss i made k.version }
    where
      over : ((a : Answer) × WasReleasedWith c older e i (stamp_made made) a) ⊎ EndsNow c older e ss i (stamp_made made) → ((a : Answer) × WasReleasedWith c (More n x older) e i (stamp_made made) a) ⊎ EndsNow c (More n x older) e ss i (stamp_made made)
      over (inl r) = inl (r.0, inr r.1)
      over (inr now) = ends_stay c n x older h may owners (commits_owe c older x may) e ss i (stamp_made made) now

  body_stays : (p : Packet) (b : Body) → BodyFact c older p b → BodyFact c (More n x older) p b
  body_stays p (body.Report group copies) k = (record { joined = joined_stays n x older p.from p.epoch k.0.joined; packed = k.0.packed }, versions.reports p.epoch p.from group copies k.1)
  body_stays p (body.Open serial call process request file it) k = open_stays c n x older h may p.epoch p.from serial call process request file it k
  body_stays p (body.OpenSs inst file m set kind base vector parents) k = open_ss_stays p.epoch p.to inst file m set kind base vector parents k
  body_stays p (body.Opened inst a) k = opened_stays p.epoch p.from inst a k
  body_stays p (body.OpenDone serial a) k = open_done_stays p.epoch p.to serial a k
  body_stays p (body.Op serial number o seen) k = op_stays p.epoch p.to _ number o seen k
  body_stays p (body.ReadHeld serial number at len) k = op_stays p.epoch p.to _ number _ _ k
  body_stays p (body.OpDone serial number result) k = (k.0, inr k.1)
  body_stays p (body.AsHeld serial number len) k = (k.0, k.1, (k.2.0, inr k.2.1))
  body_stays p (body.Close serial) k = close_stays c n x older h may owners p.epoch p.to _ k
  body_stays p (body.Closed inst made) k = closed_stays p.epoch p.from inst made k
  body_stays p (body.ClosedOk inst) k = inr k
  body_stays p (body.CloseDone serial a) k = (k.0, inr k.1)
  body_stays p (body.Look call process request times file w) k = look_stays c n x older h may p.epoch p.from call process request times file w k
  body_stays p (body.LookSs us call process request times file w serve) k = serve_stays p.epoch us call process request times file w serve k
  body_stays p (body.LookDone call request times a) k = look_done_stays p.epoch p.to p.to_boot call request times a k
  body_stays p (body.Notify file kind set size stamp vector holder) k = notify_stays c n x older versions p.epoch p.to file kind set size stamp vector holder k
  body_stays p (body.Pull file stamp page) k = versions.stands file stamp k
  body_stays p (body.Want file wanted own) k = record { wanted_stands = versions.stands file wanted k.wanted_stands; own_stands = versions.stands file own k.own_stands; joined = joined_stays n x older p.from p.epoch k.joined }
  body_stays p (body.Page file stamp page bytes) k = page_stays c older (More n x older) versions file stamp page bytes k
  body_stays p (body.Delta file wanted pages) k = record { wanted_stands = versions.stands file wanted k.wanted_stands; joined = joined_stays n x older p.to p.epoch k.joined }
  body_stays p (body.Have file stamp) k = record { started = started_stays c n x older p.epoch file.group k.started; has = versions.have p.epoch p.from file stamp k.has }
  body_stays p _ k = tt

pub packet_stays : (c : Config) (n : ℕ) (x : Told) (older : List Line) → IsFollowed c older → MayTell c older x → AllStay c older (More n x older) x → (p : Packet) → PacketFact c older p → PacketFact c (More n x older) p
packet_stays c n x older h may stay p k = body_stays c n x older h may stay p p.body k
