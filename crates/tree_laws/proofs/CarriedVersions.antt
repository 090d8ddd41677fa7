-- What packets carry of versions stays when a line is added, as far as the order of versions gives it.
use Rattle.std.proofs.Common.{◌≡◌, ℕ, max, List, [], ◌∷◌, length, Option, Some, None, sym, ◌∙◌, ap, subst, ◌⊎◌, inl, inr}
use Rattle.version_vector.specs.Counters.{part}
use Rattle.locus_ids.specs.declared.config.Config.{Config}
use Rattle.locus_ids.specs.declared.ids.EpochId.{EpochId}
use Rattle.locus_ids.specs.declared.ids.FileId.{FileId}
use Rattle.locus_ids.specs.declared.ids.Kind.{Kind}
use Rattle.locus_ids.specs.declared.ids.Mode.{Mode}
use Rattle.locus_ids.specs.declared.ids.Mode.TheVariants as mode
use Rattle.locus_ids.specs.declared.ids.Serial.{Serial}
use Rattle.locus_ids.specs.declared.ids.Stamp.{Stamp}
use Rattle.locus_ids.specs.declared.sites.Sites.{Sites}
use Rattle.trace_book.specs.declared.operation.Served.{Served}
use Rattle.trace_book.specs.declared.operation.Served.TheVariants as served
use Rattle.trace_book.specs.declared.operation.What.{What}
use Rattle.the_run.specs.of_wire_messages.declared.body.LookAnswer.{LookAnswer}
use Rattle.the_run.specs.of_wire_messages.declared.body.LookAnswer.TheVariants as looked
use Rattle.the_run.specs.of_wire_messages.declared.body.MadeVersion.{MadeVersion}
use Rattle.the_run.specs.of_role_steps.Storage.{served_content}
use Rattle.the_run.specs.of_role_steps.Views.{Told}
use Rattle.the_run.specs.Worlds.{Line}
use Rattle.lawful_trace.specs.of_tree_model.Files.{HeldVersion, version_of}
use Rattle.lawful_trace.specs.of_tree_model.Tree.{kept_in}
use Rattle.tree_laws.specs.Printed.{entries}
use Rattle.tree_laws.specs.Instances.{IsVersion, Stands}
use Rattle.tree_laws.specs.Past.{WasBegun}
use Rattle.tree_laws.specs.Frames.{VersionsStay}
use Rattle.tree_laws.specs.Packets.{JoinsParents, PlainOpenSs, SeesVersion, LookGives, LookAnswers, MadeFact, MaybeMade, NotifyFact, PageFact}
use Rattle.tree_laws.proofs.CarriedLooks.{More}
use Rattle.tree_laws.proofs.Kinship.{started_stays}

-- a version is what it was
pub same_version_of : (c : Config) (old new : List Line) → VersionsStay c old new → (f : FileId) (s : Stamp) → Stands c old f s → version_of c (entries new) f s ≡ version_of c (entries old) f s
same_version_of c old new v f s h = over (v.kinds f s h) (v.sets f s h) (v.vectors f s h) (v.contents f s h)
  where
    over : (version_of c (entries new) f s).kind ≡ (version_of c (entries old) f s).kind → (version_of c (entries new) f s).set ≡ (version_of c (entries old) f s).set →
        (version_of c (entries new) f s).vector ≡ (version_of c (entries old) f s).vector → (version_of c (entries new) f s).content ≡ (version_of c (entries old) f s).content →
        version_of c (entries new) f s ≡ version_of c (entries old) f s
    over a b d e = λ i. record { kind = a i; set = b i; stamp = s; vector = d i; content = e i }

pub version_stays : (c : Config) (old new : List Line) → VersionsStay c old new → (f : FileId) (x : HeldVersion) → IsVersion c old f x → IsVersion c new f x
version_stays c old new v f x h = record { stands = v.stands f x.stamp h.stands; same = h.same ∙ sym (same_version_of c old new v f x.stamp h.stands) }

pub joins_stay : (c : Config) (old new : List Line) → VersionsStay c old new → (f : FileId) (ps : List Stamp) (vector : List ℕ) → JoinsParents c old f ps vector → JoinsParents c new f ps vector
joins_stay c old new v f [] vector h = h
joins_stay c old new v f (p ∷ ps) vector h = (
  h.0,
  v.stands f p h.1,
  joins_stay c old new v f ps h.0 h.2,
  λ s. subst (λ (x : List ℕ). part vector s ≡ max (part x s) (part h.0 s)) (sym (v.vectors f p h.1)) (h.3 s),
  h.4,
)

pub sees_stay : (c : Config) (old new : List Line) → VersionsStay c old new → (f : FileId) (m : Mode) (stamp : Option Stamp) (vector : List ℕ) → SeesVersion c old f m stamp vector → SeesVersion c new f m stamp vector
sees_stay c old new v f mode.Write (Some s) vector h = (v.stands f s h.0, h.1 ∙ sym (v.vectors f s h.0))
sees_stay c old new v f mode.Write None vector h = tt
sees_stay c old new v f mode.Read stamp vector h = tt
sees_stay c old new v f mode.Resolve stamp vector h = tt
sees_stay c old new v f mode.Mend stamp vector h = tt
sees_stay c old new v f mode.Make stamp vector h = tt

gives_stay : (c : Config) (old new : List Line) → VersionsStay c old new → (f : FileId) (w : What) (s : Stamp) (a : LookAnswer) → Stands c old f s → LookGives c old f w s a → LookGives c new f w s a
gives_stay c old new v f w s looked.Moved k h = tt
gives_stay c old new v f w s (looked.Stat kind size at) k h = (h.0, h.1 ∙ sym (v.kinds f s k), h.2 ∙ ap length (sym (v.contents f s k)), h.3)
gives_stay c old new v f w s _ k h = h ∙ ap (served_content w) (sym (v.contents f s k))

pub answers_stay : (c : Config) (old new : List Line) → VersionsStay c old new → (f : FileId) (w : What) (result : Served) (a : LookAnswer) → LookAnswers c old f w result a → LookAnswers c new f w result a
answers_stay c old new v f w (served.At s) a h = (v.stands f s h.0, gives_stay c old new v f w s a h.0 h.1)
answers_stay c old new v f w (served.No why) a h = h

made_stays : (c : Config) (n : ℕ) (x : Told) (older : List Line) → VersionsStay c older (More n x older) → (e : EpochId) (ss : ℕ) (i : Serial) (v : MadeVersion) → MadeFact c older e ss i v → MadeFact c (More n x older) e ss i v
made_stays c n x older stay e ss i v h = record { file = h.file; begun = inr h.begun; version = h.version; is_version = version_stays c older (More n x older) stay h.file h.version h.is_version; same = h.same }

pub maybe_stays : (c : Config) (n : ℕ) (x : Told) (older : List Line) → VersionsStay c older (More n x older) → (e : EpochId) (ss : ℕ) (i : Serial) (made : Option MadeVersion) → MaybeMade c older e ss i made → MaybeMade c (More n x older) e ss i made
maybe_stays c n x older stay e ss i None h = tt
maybe_stays c n x older stay e ss i (Some v) h = made_stays c n x older stay e ss i v h

pub plain_stays : (c : Config) (n : ℕ) (x : Told) (older : List Line) → VersionsStay c older (More n x older) → (e : EpochId) (ss : ℕ) (i : Serial) (f : FileId) (m : Mode) (set : Sites) (k : Kind) (base : Stamp) (vector : List ℕ) (parents : List Stamp) →
    PlainOpenSs c older e ss i f m set k base vector parents → PlainOpenSs c (More n x older) e ss i f m set k base vector parents
plain_stays c n x older stay e ss i f m set k base vector parents h = record {
  call = h.call;
  request = h.request;
  stamp = h.stamp;
  was_granted = inr h.was_granted;
  base_is = h.base_is;
  some = (h.some.0, stay.stands f h.some.0 h.some.1);
  set_is = h.set_is ∙ sym (stay.sets f h.some.0 h.some.1);
  kind_is = h.kind_is ∙ sym (stay.kinds f h.some.0 h.some.1);
  alone = h.alone;
  vector_is = joins_stay c older (More n x older) stay f parents vector h.vector_is;
  parents_are = over h.parents_are;
}
  where
    over : ((site : ℕ) × WasBegun older site e i f) ⊎ (parents ≡ kept_in c (entries older) e f) → ((site : ℕ) × WasBegun (More n x older) site e i f) ⊎ (parents ≡ kept_in c (entries (More n x older)) e f)
    over (inl b) = inl (b.0, inr b.1)
    over (inr p) = stay.kept e h.call h.request i m f h.stamp ss parents h.was_granted p

pub notify_stays : (c : Config) (n : ℕ) (x : Told) (older : List Line) → VersionsStay c older (More n x older) → (e : EpochId) (to : ℕ) (f : FileId) (k : Kind) (set : Sites) (size : ℕ) (stamp : Stamp) (vector : List ℕ) (holder : ℕ) →
    NotifyFact c older e to f k set size stamp vector holder → NotifyFact c (More n x older) e to f k set size stamp vector holder
notify_stays c n x older stay e to f k set size stamp vector holder h = record {
  started = started_stays c n x older e f.group h.started;
  known = stay.known e f stamp h.known;
  single = stay.single e f h.started h.single;
  version = h.version;
  is_version = version_stays c older (More n x older) stay f h.version h.is_version;
  stamp_is = h.stamp_is;
  kind_is = h.kind_is;
  set_is = h.set_is;
  vector_is = h.vector_is;
  size_is = h.size_is;
  wanted = h.wanted;
  holds = stay.have e holder f stamp h.holds;
}

pub page_stays : (c : Config) (old new : List Line) → VersionsStay c old new → (f : FileId) (stamp : Stamp) (page : ℕ) (bytes : List ℕ) → PageFact c old f stamp page bytes → PageFact c new f stamp page bytes
page_stays c old new stay f stamp page bytes h = record { version = h.version; is_version = version_stays c old new stay f h.version h.is_version; stamp_is = h.stamp_is; bytes_are = h.bytes_are }
