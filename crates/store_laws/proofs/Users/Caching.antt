-- The pages that a site has in memory stay right whatever is told and whatever its calls read, and the bytes that a call copies are
-- those of the version that it reads.
use Rattle.std.proofs.Common.{◌≡◌, ℕ, Bool, true, false, cond, List, [], ◌∷◌, Option, Some, None, refl, sym, ◌∙◌, ap, subst, take, drop, inr}
use Rattle.std.specs.Prelude.{length}
use Rattle.role_steps.proofs.of_plain_facts.Options.{none_some, some_same}
use Rattle.locus_ids.specs.declared.config.Config.{Config}
use Rattle.locus_ids.specs.declared.ids.CallId.{CallId}
use Rattle.locus_ids.specs.declared.ids.FileId.{FileId}
use Rattle.locus_ids.specs.declared.ids.Mode.{Mode}
use Rattle.locus_ids.specs.declared.ids.Mode.TheVariants as mode
use Rattle.locus_ids.specs.declared.ids.Stamp.{Stamp}
use Rattle.commit_graph.specs.Versions.{content_of, is_in}
use Rattle.trace_book.specs.declared.call.Call.{Call}
use Rattle.trace_book.specs.declared.call.Call.TheVariants as call
use Rattle.trace_book.specs.declared.descriptor.Beginning.{Beginning}
use Rattle.trace_book.specs.declared.descriptor.Beginning.TheVariants as begins
use Rattle.trace_book.specs.declared.operation.Op.{Op}
use Rattle.trace_book.specs.declared.operation.Op.TheVariants as op
use Rattle.trace_book.specs.declared.operation.Outcome.{Outcome as Result}
use Rattle.trace_book.specs.declared.operation.Outcome.TheVariants as result
use Rattle.role_steps.specs.of_page_cache.declared.part.Part.{Part}
use Rattle.role_steps.specs.of_page_cache.Cached.{CachedPages}
use Rattle.role_steps.specs.of_page_cache.Parts.{held_part, with_part}
use Rattle.role_steps.specs.Own.{Every}
use Rattle.role_steps.specs.Requests.{instance_serial, user_instance}
use Rattle.role_steps.specs.Using.{copied_part, keeps_brought, keeps_part, part_of_instance, part_of_version, part_read, used_part}
use Rattle.role_steps.specs.Views.{Users, Frame, Told}
use Rattle.role_steps.specs.declared.users.Asking.TheVariants as asking
use Rattle.role_steps.specs.declared.users.UserInstance.{UserInstance}
use Rattle.role_steps.specs.declared.users.VersionRead.{VersionRead}
use Rattle.tree_laws.specs.Caches.Right.{AreRight, HasContent, bytes_of}
use Rattle.tree_laws.specs.of_the_run.Kept.{Among}
use Rattle.tree_laws.specs.of_the_run.Worlds.{Line}
use Rattle.tree_model.specs.Histories.{history}
use Rattle.tree_laws.specs.Doing.{UsersInside}
use Rattle.tree_laws.specs.Frames.{IsFresh, VersionsStay}
use Rattle.tree_laws.specs.Instances.{Stands}
use Rattle.tree_laws.specs.Packets.{serial_of}
use Rattle.tree_laws.specs.Past.{WasDone, WasGranted}
use Rattle.tree_laws.specs.Printed.{entries}
use Rattle.tree_laws.specs.Users.{contents_in, CopiedFact, CopiesBytes, ReadsFact, UserInstanceFact}
use Rattle.tree_laws.proofs.Histories.{content_same, stands_more}
use Rattle.tree_laws.proofs.Caches.Finding.{found_right}
use Rattle.tree_laws.proofs.Caches.Staying.{stay_looked, stay_put, stay_told}
use Rattle.store_laws.specs.Users.Rests.{ReadRests}
use Rattle.store_laws.proofs.Users.Staying.{With}
use Rattle.store_laws.proofs.Users.Tabled.{every_among, row_found}

-- ---- what is told ----

-- a content is that of a version that stands
content_stands : (c : Config) (t : List Line) (f : FileId) (s : Stamp) (content : List ℕ) → contents_in c t f s ≡ Some content → Stands c t f s × (content_of (history c (entries t)) f s ≡ content)
content_stands c t f s content e = over (is_in (history c (entries t)) f s) refl e
  where
    over : (b : Bool) → is_in (history c (entries t)) f s ≡ b → cond b (Some (content_of (history c (entries t)) f s)) None ≡ Some content → Stands c t f s × (content_of (history c (entries t)) f s ≡ content)
    over true stands k = (stands, some_same (content_of (history c (entries t)) f s) content k)
    over false stands k = absurd (none_some content k)

pub standing : (c : Config) (t : List Line) (f : FileId) (s : Stamp) → Stands c t f s → contents_in c t f s ≡ Some (content_of (history c (entries t)) f s)
standing c t f s k = ap (λ (b : Bool). cond b (Some (content_of (history c (entries t)) f s)) None) k

pub cache_stays : (c : Config) (old new : List Line) → ((f : FileId) (s : Stamp) → Stands c old f s → Stands c new f s) → ((f : FileId) (s : Stamp) → Stands c old f s → content_of (history c (entries new)) f s ≡ content_of (history c (entries old)) f s) → (pages : CachedPages) → AreRight (contents_in c old) pages → AreRight (contents_in c new) pages
cache_stays c old new stands same pages right = stay_told (contents_in c old) (contents_in c new) more pages right
  where
    more : (f : FileId) (s : Stamp) (content : List ℕ) → contents_in c old f s ≡ Some content → contents_in c new f s ≡ Some content
    more f s content e = (let was : Stands c old f s × (content_of (history c (entries old)) f s ≡ content) = content_stands c old f s content e in
        standing c new f s (stands f s was.0) ∙ ap Some (same f s was.0 ∙ was.1))

-- a line is told that takes no stamp of its file that stands
pub cache_told : (c : Config) (n : ℕ) (x : Told) (older : List Line) → IsFresh c older x → (pages : CachedPages) → AreRight (contents_in c older) pages → AreRight (contents_in c (With n x older)) pages
cache_told c n x older fresh pages right = cache_stays c older (With n x older) (λ f s k. stands_more c n x older f s k) (λ f s k. content_same c n x older f s fresh k) pages right

pub reads_stay : (c : Config) (old new : List Line) → VersionsStay c old new → (m : Mode) (f : FileId) (stamp : Option Stamp) (reads : Option VersionRead) → ReadsFact c old m f stamp reads → ReadsFact c new m f stamp reads
reads_stay c old new v m f stamp None k = tt
reads_stay c old new v m f stamp (Some r) k = record { mode_is = k.mode_is; file_is = k.file_is; stamp_is = k.stamp_is; stands = v.stands r.file r.stamp k.stands; size_is = ap length (v.contents r.file r.stamp k.stands) ∙ k.size_is }

module _ (c : Config) (n : ℕ) (x : Told) (older : List Line) (stands : (f : FileId) (s : Stamp) → Stands c older f s → Stands c (With n x older) f s) (same : (f : FileId) (s : Stamp) → Stands c older f s → content_of (history c (entries (With n x older))) f s ≡ content_of (history c (entries older)) f s) (f : Frame) where
  copies_stay : (serial at len : ℕ) (bytes : List ℕ) → CopiesBytes c older f serial at len bytes → CopiesBytes c (With n x older) f serial at len bytes
  copies_stay serial at len bytes k = record {
    call = k.call;
    request = k.request;
    file = k.file;
    stamp = k.stamp;
    ss = k.ss;
    was_granted = inr k.was_granted;
    stands = stands k.file k.stamp k.stands;
    bytes_are = k.bytes_are ∙ ap (λ (content : List ℕ). take len (drop at content)) (sym (same k.file k.stamp k.stands));
  }

  pub copied_stays : (words : Call) (b : Beginning) (copied : Option (List ℕ)) → CopiedFact c older f words b copied → CopiedFact c (With n x older) f words b copied
  copied_stays words b None k = tt
  copied_stays (call.Read fd at len) (begins.Uses e inst) (Some bytes) k = copies_stay inst.serial at len bytes k
  copied_stays words b (Some bytes) k = absurd k

-- ---- what a call reads ----

-- what a read of an instance asks is a part of the version on which it was granted
pub record PartFact (c : Config) (t : List Line) (f : Frame) (serial at len : ℕ) (p : Part) : Type 0 where
  pub call : CallId
  pub request : ℕ
  pub ss : ℕ
  pub was_granted : WasGranted t f.epoch call request (serial_of f.me serial) mode.Read p.file (Some p.stamp) ss
  pub stands : Stands c t p.file p.stamp
  pub size_is : length (content_of (history c (entries t)) p.file p.stamp) ≡ p.size
  pub at_is : p.at ≡ at
  pub len_is : p.len ≡ len

abbrev MaybePart : Config → List Line → Frame → (serial at len : ℕ) → Option Part → Type 0
MaybePart c t f serial at len None = Unit {0}
MaybePart c t f serial at len (Some p) = PartFact c t f serial at len p

part_so : (c : Config) (t : List Line) (f : Frame) (u : Users) (serial at len : ℕ) → Every (UserInstanceFact c t f) u.instances → MaybePart c t f serial at len (part_of_instance at len (user_instance u serial))
part_so c t f u serial at len all = over (user_instance u serial) refl
  where
    version : (i : UserInstance) → i.serial ≡ serial → (k : UserInstanceFact c t f i) → (r : Option VersionRead) → ReadsFact c t k.mode k.file k.stamp r → MaybePart c t f serial at len (part_of_version at len r)
    version i same k None reads = tt
    version i same k (Some v) reads = record {
      call = k.call;
      request = k.request;
      ss = i.ss;
      was_granted = subst (λ (s : ℕ). WasGranted t f.epoch k.call k.request (serial_of f.me s) mode.Read v.file (Some v.stamp) i.ss) same
          (subst (λ (m : Mode). WasGranted t f.epoch k.call k.request (serial_of f.me i.serial) m v.file (Some v.stamp) i.ss) reads.mode_is
          (subst (λ (g : FileId). WasGranted t f.epoch k.call k.request (serial_of f.me i.serial) k.mode g (Some v.stamp) i.ss) reads.file_is
          (subst (λ (s : Option Stamp). WasGranted t f.epoch k.call k.request (serial_of f.me i.serial) k.mode k.file s i.ss) reads.stamp_is k.was_granted)));
      stands = reads.stands;
      size_is = reads.size_is;
      at_is = refl;
      len_is = refl;
    }

    over : (o : Option UserInstance) → user_instance u serial ≡ o → MaybePart c t f serial at len (part_of_instance at len o)
    over None e = tt
    over (Some i) e = (let found : Among i u.instances × (i.serial ≡ serial) = row_found instance_serial serial u.instances i e in
        let k : UserInstanceFact c t f i = every_among (UserInstanceFact c t f) i u.instances found.0 all in
        version i found.1 k i.reads k.reads)

module _ (c : Config) (t : List Line) (f : Frame) (serial at len : ℕ) (p : Part) (k : PartFact c t f serial at len p) where
  abbrev content : List ℕ
  content = content_of (history c (entries t)) p.file p.stamp

  whole : HasContent (contents_in c t) p content
  whole = record { is_content = standing c t p.file p.stamp k.stands; size = k.size_is }

  part_bytes : bytes_of p content ≡ take len (drop at content)
  part_bytes = ap (λ (m : ℕ). take m (drop p.at content)) k.len_is ∙ ap (λ (m : ℕ). take len (drop m content)) k.at_is

  -- what is found of it
  part_copied : (pages : CachedPages) → AreRight (contents_in c t) pages → (bytes : List ℕ) → held_part p pages ≡ Some bytes → CopiesBytes c t f serial at len bytes
  part_copied pages right bytes found = record {
    call = k.call;
    request = k.request;
    file = p.file;
    stamp = p.stamp;
    ss = k.ss;
    was_granted = k.was_granted;
    stands = k.stands;
    bytes_are = found_right (contents_in c t) p content whole pages right bytes found ∙ part_bytes;
  }

  -- what a read of it brings is put
  part_put : (pages : CachedPages) → AreRight (contents_in c t) pages → (bytes : List ℕ) → bytes ≡ take len (drop at content) → AreRight (contents_in c t) (with_part p bytes pages)
  part_put pages right bytes e = subst (λ (xs : List ℕ). AreRight (contents_in c t) (with_part p xs pages)) (part_bytes ∙ sym e) (stay_put (contents_in c t) p content pages right whole)

-- the bytes that an accepted call copies
pub copied_so : (c : Config) (t : List Line) (f : Frame) (u : Users) → Every (UserInstanceFact c t f) u.instances → AreRight (contents_in c t) u.cache → (words : Call) (b : Beginning) → CopiedFact c t f words b (copied_part (part_read u words b) u.cache)
copied_so c t f u all right (call.Read fd at len) (begins.Uses e inst) = over (part_of_instance at len (user_instance u inst.serial)) (part_so c t f u inst.serial at len all)
  where
    found : (p : Part) → PartFact c t f inst.serial at len p → (o : Option (List ℕ)) → held_part p u.cache ≡ o → CopiedFact c t f (call.Read fd at len) (begins.Uses e inst) o
    found p k None is = tt
    found p k (Some bytes) is = part_copied c t f inst.serial at len p k u.cache right bytes is

    over : (o : Option Part) → MaybePart c t f inst.serial at len o → CopiedFact c t f (call.Read fd at len) (begins.Uses e inst) (copied_part o u.cache)
    over None k = tt
    over (Some p) k = found p k (held_part p u.cache) refl
copied_so c t f u all right words b = tt

-- the pages once it has looked them up
pub used_right : (c : Config) (t : List Line) (p : Option Part) (pages : CachedPages) → AreRight (contents_in c t) pages → AreRight (contents_in c t) (used_part p pages)
used_right c t None pages right = right
used_right c t (Some p) pages right = stay_looked (contents_in c t) p pages right

-- what is kept of the answer to a read that was done
module _ (c : Config) (t : List Line) (f : Frame) (u : Users) (k : UsersInside c f t u) (rests : ReadRests c t) (serial place number : ℕ) (seen : List ℕ) where
  -- leaves all but the pages, and these stay right
  pub record Keeps (v : Users) : Type 0 where
    pub pages : CachedPages
    pub same : v ≡ record u { cache = pages }
    pub right : AreRight (contents_in c t) pages

  pub keeps_so : (o : Op) (r : Result) → WasDone t f.epoch (serial_of f.me serial) number o r → Keeps (keeps_brought (asking.Op serial place number o seen) r u)
  keeps_so (op.Read at len) (result.Data bytes) done = over (part_of_instance at len (user_instance u serial)) (part_so c t f u serial at len k.inside.instances)
    where
      over : (o : Option Part) → MaybePart c t f serial at len o → Keeps (keeps_part bytes o u)
      over None none = record { pages = u.cache; same = refl; right = k.always.cache }
      over (Some p) part = record {
        pages = with_part p bytes u.cache;
        same = refl;
        right = part_put c t f serial at len p part u.cache k.always.cache bytes (rests.gave f.epoch (serial_of f.me serial) number at len bytes part.call part.request p.file p.stamp part.ss done part.was_granted);
      }
  keeps_so o r done = record { pages = u.cache; same = refl; right = k.always.cache }

-- with other pages that are right
pub with_pages : (c : Config) (t : List Line) (f : Frame) (u : Users) → UsersInside c f t u → (pages : CachedPages) → AreRight (contents_in c t) pages → UsersInside c f t (record u { cache = pages })
with_pages c t f u k pages right = record {
  always = record { boot_is = k.always.boot_is; calls = k.always.calls; serials = k.always.serials; descriptors = k.always.descriptors; ascends = k.always.ascends; cache = right };
  inside = record { calls = k.inside.calls; ascends = k.inside.ascends; numbered = k.inside.numbered; instances = k.inside.instances; has = k.inside.has; all = k.inside.all; hopeless = k.inside.hopeless };
}
