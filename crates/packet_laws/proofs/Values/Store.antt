-- What a storage site answers is of the format, and so is what it has then.
use Rattle.std.proofs.Common.{◌≡◌, ◌≤◌, ◌∙◌, ℕ, zero, suc, ◌+◌, ◌-◌, ◌*◌, ◌==◌, Bool, true, false, List, [], Option, None, Some, refl, sym, subst, arith}
use Rattle.std.proofs.lemmas.Bool.Decides.{nat_tests}
use Rattle.locus_ids.specs.declared.ids.FileId.{FileId}
use Rattle.locus_ids.specs.declared.ids.Mode.{Mode}
use Rattle.locus_ids.specs.declared.ids.Mode.TheVariants as mode
use Rattle.locus_ids.specs.declared.ids.Serial.{Serial}
use Rattle.locus_ids.specs.declared.ids.Stamp.{Stamp}
use Rattle.locus_ids.specs.declared.refusal.Refusal.TheVariants as refusal
use Rattle.locus_ids.specs.Sizes.{inodes_max, site_inodes}
use Rattle.wire_fields.specs.Parts.{files, files_or_new, inodes, stamps}
use Rattle.field_codec.specs.Codec.{followed_by}
use Rattle.wire_fields.proofs.Members.{range}
use Rattle.wire_messages.specs.declared.body.Opening.TheVariants as opening
use Rattle.wire_messages.specs.Answers.{is_new, made_answers, versions, mode_number, modes, close_answers, openings}
use Rattle.wire_messages.specs.declared.body.Body.TheVariants as body
use Rattle.wire_messages.specs.declared.body.CloseAnswer.{CloseAnswer}
use Rattle.wire_messages.specs.declared.body.CloseAnswer.TheVariants as closing
use Rattle.wire_messages.specs.declared.body.MadeVersion.{MadeVersion}
use Rattle.wire_messages.specs.declared.body.OpenedAs.TheVariants as opened
use Rattle.role_steps.specs.Own.{Every}
use Rattle.role_steps.specs.Storage.{StoreRequest, base_of, close_done, copy_made, with_instance, begun_instance, closed_again, closed_packets, closes, closes_owing, commits, copy_of, ends_at, instance_committed, instance_of, is_open, is_spent, is_used, made_version, next_ino, next_stamp, next_vector, on_close, on_close_at, on_close_of, on_closed_ok, on_closed_ok_of, on_open_ss, on_open_ss_of, opened_packets, opens, opens_made, own_ino, shut, shuts, shuts_again, shuts_with, store_repeats, instance_key}
use Rattle.role_steps.specs.Views.{Frame, Outcome, Store, and_then, file_key, serial_key}
use Rattle.role_steps.specs.declared.copies.FileCopy.{FileCopy}
use Rattle.role_steps.specs.declared.instances.Instance.{Instance}
use Rattle.role_steps.specs.declared.instances.Stage.{Stage}
use Rattle.role_steps.specs.declared.instances.Stage.TheVariants as stage
use Rattle.role_steps.proofs.Sending.{every_cond}
use Rattle.the_run.proofs.InsideSync.{Found, row_found}
use Rattle.packet_laws.specs.Fitting.Fields.{IsSite}
use Rattle.packet_laws.specs.Values.Bodies.{FitsBut, IsListed, IsNamed}
use Rattle.packet_laws.specs.Values.Values.{CopyFits, InstanceFits, SentFits, StageFits, StampIfAny, StoreFits, VersionIfAny}
use Rattle.packet_laws.proofs.Values.Copies.{content_fits, found_copy, with_copy_fits}
use Rattle.packet_laws.proofs.Values.Fields.{every_flat, every_latest, ino_fits, next_fits, one_fits, sync_fits}

-- what an outcome of the storage site sends and leaves is of the format
abbrev pub StoreDone : List ℕ → Outcome Store → Type 0
StoreDone boots o = Every (SentFits boots) o.sent × StoreFits boots o.view

-- what is asked of the storage site
pub record RequestFits (boots : List ℕ) (r : StoreRequest) : Type 0 where
  pub body : FitsBut (body.OpenSs r.inst r.file r.mode r.set r.kind r.base r.vector r.parents)
  pub listed : IsListed boots r.inst.us

-- ---- numbers of new files ----

ino_from : (s : Store) (group ino left : ℕ) (o : Option ℕ) → next_ino s group ino left ≡ o → (n : ℕ) → o ≡ Some n → (ino ≤ n) × (n + 1 ≤ ino + left)
ino_from s group ino zero o e n k = absurd (none_some n (e ∙ k))
  where
    none_some : (n : ℕ) → ◌≡◌ {A = Option ℕ} None (Some n) → ⊥
    none_some n e = cc
ino_from s group ino (suc left) o e n k = over (λ q. ino_from s group (ino + 1) left (Some n) q n refl) (is_used s group ino) (e ∙ k)
  where
    some_is : (a b : ℕ) → ◌≡◌ {A = Option ℕ} (Some a) (Some b) → a ≡ b
    some_is a b e = cc

    over : (next_ino s group (ino + 1) left ≡ Some n → (ino + 1 ≤ n) × (n + 1 ≤ ino + 1 + left)) → (b : Bool) → elim b as (λ (t : Bool). Option ℕ) [ true ↦ next_ino s group (ino + 1) left | false ↦ Some ino ] ≡ Some n → (ino ≤ n) × (n + 1 ≤ ino + suc left)
    over rest true e = let h : (ino + 1 ≤ n) × (n + 1 ≤ ino + 1 + left) = rest e in (omega (arith, h.0), omega (arith, h.1))
    over rest false e = let h : ino ≡ n = some_is ino n e in (omega (arith, h), omega (arith, h))

own_fits : (s : Store) (group me : ℕ) → IsSite me → (n : ℕ) → own_ino s group me ≡ Some n → inodes.Fits n
own_fits s group me site n e = range_of (ino_from s group (site_inodes * (me - 1) + 1) site_inodes (own_ino s group me) refl n e)
  where
    range_of : (site_inodes * (me - 1) + 1 ≤ n) × (n + 1 ≤ site_inodes * (me - 1) + 1 + site_inodes) → inodes.Fits n
    range_of h = ino_fits n (omega (arith, h.0)) (omega (arith, h.1, site.1))

-- ---- modes ----

-- what isn't made is there
pub old_file : (file : FileId) (m : Mode) → mode_number m ≤ 4 → (followed_by files_or_new (λ (x : FileId). modes (is_new x))).Fits (file, m) → files.Fits file
old_file file m old h = (h.0.0, ino_fits file.ino (some (file.ino == 0) refl) (range 0 inodes_max file.ino h.0.1.0).1)
  where
    some : (b : Bool) → (file.ino == 0) ≡ b → 1 ≤ file.ino
    some true e = absurd (let k : 5 ≤ mode_number m = subst (λ (t : Bool). (modes t).Fits m → 5 ≤ mode_number m) (sym e) (λ g. (range 5 5 (mode_number m) g.0).0) h.1 in omega (arith, k, old))
    some false e = grind (arith, nat_tests)

-- so is one that is opened to read
pub read_file : (file : FileId) → files_or_new.Fits file → (openings (is_new file)).Fits opening.Read → files.Fits file
read_file file h k = (h.0, ino_fits file.ino (some (file.ino == 0) refl) (range 0 inodes_max file.ino h.1.0).1)
  where
    some : (b : Bool) → (file.ino == 0) ≡ b → 1 ≤ file.ino
    some true e = absurd (let low : 5 ≤ 1 = subst (λ (t : Bool). (openings t).Fits opening.Read → 5 ≤ 1) (sym e) (λ g. (range 5 5 1 g.0.0).0) k in omega (arith, low))
    some false e = grind (arith, nat_tests)

-- ---- opens ----

base_fits : (m : Mode) (o : Option FileCopy) (base : Stamp) → stamps.Fits base → StampIfAny (base_of m o base)
base_fits mode.Make o base h = tt
base_fits mode.Mend None base h = tt
base_fits mode.Mend (Some x) base h = h
base_fits mode.Read o base h = h
base_fits mode.Write o base h = h
base_fits mode.Resolve o base h = h

begun_fits : (boots : List ℕ) (r : StoreRequest) (file : FileId) (o : Option FileCopy) → RequestFits boots r → files.Fits file → Found CopyFits o → InstanceFits boots (begun_instance r file o)
begun_fits boots r file o h at found = record {
  named = h.body.0;
  listed = h.listed;
  file = at;
  set = h.body.2;
  vector = h.body.4;
  size = content_fits o found;
  content = content_fits o found;
  last = base_fits r.mode o r.base h.body.3;
  committed = tt;
  answered = tt;
  stage = tt;
}

-- it is kept among the instances
pub kept_fits : (boots : List ℕ) (i : Instance) (s : Store) → InstanceFits boots i → StoreFits boots s → StoreFits boots (with_instance i s)
kept_fits boots i s k h = record { copies = h.copies; instances = every_latest (InstanceFits boots) instance_key i s.instances k h.instances }

opened_fits : (f : Frame) (i : Instance) → InstanceFits f.members.boot i → Every (SentFits f.members.boot) (opened_packets f i)
opened_fits f i h = sync_fits f i.file.group (body.Opened i.inst (opened.Open i.file.ino i.size)) (h.named, (h.file.1, h.size)) tt

begins_fit : (f : Frame) (r : StoreRequest) (file : FileId) (o : Option FileCopy) (s : Store) → RequestFits f.members.boot r → files.Fits file → Found CopyFits o → StoreFits f.members.boot s → Every (SentFits f.members.boot) (opened_packets f (begun_instance r file o)) × StoreFits f.members.boot (with_instance (begun_instance r file o) s)
begins_fit f r file o s h at found k =
    let i : InstanceFits f.members.boot (begun_instance r file o) = begun_fits f.members.boot r file o h at found in
    (opened_fits f (begun_instance r file o) i, kept_fits f.members.boot (begun_instance r file o) s i k)

made_fits : (f : Frame) (r : StoreRequest) (o : Option ℕ) (s : Store) → ((n : ℕ) → o ≡ Some n → inodes.Fits n) → RequestFits f.members.boot r → StoreFits f.members.boot s → StoreDone f.members.boot (opens_made f r o s)
made_fits f r None s numbers h k = (sync_fits f r.file.group (body.Opened r.inst (opened.No refusal.NoInode)) (h.body.0, tt) tt, k)
made_fits f r (Some ino) s numbers h k = begins_fit f r (record { group = r.file.group; ino = ino }) None s h (h.body.1.0.0, numbers ino refl) tt k

opens_fit : (f : Frame) → IsSite f.me → (r : StoreRequest) (m : Mode) (s : Store) → r.mode ≡ m → RequestFits f.members.boot r → StoreFits f.members.boot s → StoreDone f.members.boot (opens f r m s)
opens_fit f site r mode.Make s e h k = made_fits f r (own_ino s r.file.group f.me) s (own_fits s r.file.group f.me site) h k
opens_fit f site r mode.Read s e h k = begins_fit f r r.file (copy_of s r.file) s h (old_file r.file r.mode (subst (λ (m : Mode). mode_number m ≤ 4) (sym e) (omega arith)) h.body.1) (found_copy s (file_key r.file) k.copies) k
opens_fit f site r mode.Write s e h k = begins_fit f r r.file (copy_of s r.file) s h (old_file r.file r.mode (subst (λ (m : Mode). mode_number m ≤ 4) (sym e) (omega arith)) h.body.1) (found_copy s (file_key r.file) k.copies) k
opens_fit f site r mode.Resolve s e h k = begins_fit f r r.file (copy_of s r.file) s h (old_file r.file r.mode (subst (λ (m : Mode). mode_number m ≤ 4) (sym e) (omega arith)) h.body.1) (found_copy s (file_key r.file) k.copies) k
opens_fit f site r mode.Mend s e h k = begins_fit f r r.file (copy_of s r.file) s h (old_file r.file r.mode (subst (λ (m : Mode). mode_number m ≤ 4) (sym e) (omega arith)) h.body.1) (found_copy s (file_key r.file) k.copies) k

on_open_of_fits : (f : Frame) → IsSite f.me → (r : StoreRequest) (o : Option Instance) (s : Store) → Found (InstanceFits f.members.boot) o → RequestFits f.members.boot r → StoreFits f.members.boot s → StoreDone f.members.boot (on_open_ss_of f r o s)
on_open_of_fits f site r None s found h k = opens_fit f site r r.mode s refl h k
on_open_of_fits f site r (Some i) s found h k = (every_cond (SentFits f.members.boot) (is_open i.stage) (opened_packets f i) [] (opened_fits f i found) tt, k)

pub found_instance : (boots : List ℕ) (s : Store) (inst : Serial) → StoreFits boots s → Found (InstanceFits boots) (instance_of s inst)
found_instance boots s inst h = row_found (InstanceFits boots) instance_key (serial_key inst) s.instances h.instances

pub on_open_ss_fits : (f : Frame) → IsSite f.me → (r : StoreRequest) (s : Store) → RequestFits f.members.boot r → StoreFits f.members.boot s → StoreDone f.members.boot (on_open_ss f r s)
on_open_ss_fits f site r s h k = on_open_of_fits f site r (instance_of s r.inst) s (found_instance f.members.boot s r.inst k) h k

-- ---- commits ----

committed_instance : (f : Frame) → IsSite f.me → (i : Instance) → is_spent f i ≡ false → InstanceFits f.members.boot i → InstanceFits f.members.boot (instance_committed i (next_vector f i) (next_stamp f (next_vector f i)))
committed_instance f site i unspent h =
    let next : versions.Fits (next_stamp f (next_vector f i), next_vector f i) = next_fits i.vector f.me site unspent h.vector in
    record { named = h.named; listed = h.listed; file = h.file; set = h.set; vector = next.1.1; size = h.size; content = h.content; last = next.0; committed = next; answered = h.answered; stage = h.stage }

pub commits_fit : (f : Frame) → IsSite f.me → (i : Instance) (s : Store) → is_spent f i ≡ false → InstanceFits f.members.boot i → StoreFits f.members.boot s → StoreFits f.members.boot (commits f i s).view × stamps.Fits (next_stamp f (next_vector f i))
commits_fit f site i s unspent h k =
    let next : versions.Fits (next_stamp f (next_vector f i), next_vector f i) = next_fits i.vector f.me site unspent h.vector in (
      record {
        copies = with_copy_fits (copy_made i (next_vector f i) (next_stamp f (next_vector f i))) s.copies (record { file = h.file; set = h.set; size = h.content; version = next }) k.copies;
        instances = every_latest (InstanceFits f.members.boot) instance_key (instance_committed i (next_vector f i) (next_stamp f (next_vector f i))) s.instances (committed_instance f site i unspent h) k.instances;
      },
      next.0,
    )

-- ---- closes ----

made_version_fits : (i : Instance) (o : Option FileCopy) (committed : Option Stamp) → Found CopyFits o → VersionIfAny committed i.vector → made_answers.Fits (made_version i o committed)
made_version_fits i o None found h = tt
made_version_fits i o (Some s) found h = (h.0, (h.1, content_fits o found))

closed_fits : (f : Frame) (i : Instance) (made : Option MadeVersion) → IsNamed i.inst → made_answers.Fits made → Every (SentFits f.members.boot) (closed_packets f i made)
closed_fits f i made named h = sync_fits f i.file.group (body.Closed i.inst made) (named, h) tt

shuts_with_fit : (f : Frame) (i : Instance) (made : Option MadeVersion) (a : CloseAnswer) (s : Store) → made_answers.Fits made → close_answers.Fits a → InstanceFits f.members.boot i → StoreFits f.members.boot s → StoreDone f.members.boot (shuts_with f i made a s)
shuts_with_fit f i made a s m g h k = (
  closed_fits f i made h.named m,
  kept_fits f.members.boot (shut i made a) s (record { named = h.named; listed = h.listed; file = h.file; set = h.set; vector = h.vector; size = h.size; content = h.content; last = h.last; committed = h.committed; answered = h.answered; stage = (m, g) }) k,
)

shuts_fit : (f : Frame) (i : Instance) (a : CloseAnswer) (s : Store) → close_answers.Fits a → InstanceFits f.members.boot i → StoreFits f.members.boot s → StoreDone f.members.boot (shuts f i a s)
shuts_fit f i a s g h k = shuts_with_fit f i (made_version i (copy_of s i.file) i.work.committed) a s (made_version_fits i (copy_of s i.file) i.work.committed (found_copy s (file_key i.file) k.copies) h.committed) g h k

shuts_again_fit : (f : Frame) (a : CloseAnswer) (o : Option Instance) (s : Store) → close_answers.Fits a → Found (InstanceFits f.members.boot) o → StoreFits f.members.boot s → StoreDone f.members.boot (shuts_again f a o s)
shuts_again_fit f a None s g found k = (tt, k)
shuts_again_fit f a (Some i) s g found k = shuts_fit f i a s g found k

closes_owing_fit : (f : Frame) → IsSite f.me → (i : Instance) (s : Store) → InstanceFits f.members.boot i → StoreFits f.members.boot s → StoreDone f.members.boot (closes_owing f i s)
closes_owing_fit f site i s h k = over (is_spent f i) refl
  where
    over : (b : Bool) → is_spent f i ≡ b → StoreDone f.members.boot (elim b as (λ (t : Bool). Outcome Store) [ true ↦ shuts f i (closing.No refusal.Spent) s | false ↦ and_then (commits f i s) (λ now. shuts_again f (closing.Made (next_stamp f (next_vector f i))) (instance_of now i.inst) now) ])
    over true e = shuts_fit f i (closing.No refusal.Spent) s tt h k
    over false e =
        let c : StoreFits f.members.boot (commits f i s).view × stamps.Fits (next_stamp f (next_vector f i)) = commits_fit f site i s e h k in
        shuts_again_fit f (closing.Made (next_stamp f (next_vector f i))) (instance_of (commits f i s).view i.inst) (commits f i s).view c.1 (found_instance f.members.boot (commits f i s).view i.inst c.0) c.0

closes_fit : (f : Frame) → IsSite f.me → (i : Instance) (s : Store) → InstanceFits f.members.boot i → StoreFits f.members.boot s → StoreDone f.members.boot (closes f i s)
closes_fit f site i s h k = over i.work.owes
  where
    over : (b : Bool) → StoreDone f.members.boot (elim b as (λ (t : Bool). Outcome Store) [ true ↦ closes_owing f i s | false ↦ shuts f i closing.Nothing s ])
    over true = closes_owing_fit f site i s h k
    over false = shuts_fit f i closing.Nothing s tt h k

close_done_fits : (f : Frame) (i : Instance) (a : CloseAnswer) → InstanceFits f.members.boot i → close_answers.Fits a → Every (SentFits f.members.boot) (close_done f i a)
close_done_fits f i a h g = (one_fits f i.inst.us (body.CloseDone i.inst.serial a) h.listed (h.named.1, g) tt, tt)

on_close_at_fits : (f : Frame) → IsSite f.me → (i : Instance) (g : Stage) (s : Store) → StageFits g → InstanceFits f.members.boot i → StoreFits f.members.boot s → StoreDone f.members.boot (on_close_at f i g s)
on_close_at_fits f site i stage.Running s g h k = closes_fit f site i s h k
on_close_at_fits f site i (stage.Closing made a) s g h k = (closed_fits f i made h.named g.0, k)
on_close_at_fits f site i (stage.Closed a) s g h k = (close_done_fits f i a h g, k)

on_close_of_fits : (f : Frame) → IsSite f.me → (o : Option Instance) (s : Store) → Found (InstanceFits f.members.boot) o → StoreFits f.members.boot s → StoreDone f.members.boot (on_close_of f o s)
on_close_of_fits f site None s found k = (tt, k)
on_close_of_fits f site (Some i) s found k = on_close_at_fits f site i i.stage s found.stage found k

pub on_close_fits : (f : Frame) → IsSite f.me → (inst : Serial) (s : Store) → StoreFits f.members.boot s → StoreDone f.members.boot (on_close f inst s)
on_close_fits f site inst s k = on_close_of_fits f site (instance_of s inst) s (found_instance f.members.boot s inst k) k

ends_at_fits : (f : Frame) (i : Instance) (g : Stage) (s : Store) → StageFits g → InstanceFits f.members.boot i → StoreFits f.members.boot s → StoreDone f.members.boot (ends_at f i g s)
ends_at_fits f i stage.Running s g h k = (tt, k)
ends_at_fits f i (stage.Closing made a) s g h k = (
  close_done_fits f i a h g.1,
  kept_fits f.members.boot (record i { stage = stage.Closed a }) s (record { named = h.named; listed = h.listed; file = h.file; set = h.set; vector = h.vector; size = h.size; content = h.content; last = h.last; committed = h.committed; answered = h.answered; stage = g.1 }) k,
)
ends_at_fits f i (stage.Closed a) s g h k = (tt, k)

on_closed_ok_of_fits : (f : Frame) (o : Option Instance) (s : Store) → Found (InstanceFits f.members.boot) o → StoreFits f.members.boot s → StoreDone f.members.boot (on_closed_ok_of f o s)
on_closed_ok_of_fits f None s found k = (tt, k)
on_closed_ok_of_fits f (Some i) s found k = ends_at_fits f i i.stage s found.stage found k

pub on_closed_ok_fits : (f : Frame) (inst : Serial) (s : Store) → StoreFits f.members.boot s → StoreDone f.members.boot (on_closed_ok f inst s)
on_closed_ok_fits f inst s k = on_closed_ok_of_fits f (instance_of s inst) s (found_instance f.members.boot s inst k) k

-- ---- what is sent again ----

closed_again_fits : (f : Frame) (i : Instance) (g : Stage) → StageFits g → InstanceFits f.members.boot i → Every (SentFits f.members.boot) (closed_again f i g)
closed_again_fits f i stage.Running g h = tt
closed_again_fits f i (stage.Closing made a) g h = closed_fits f i made h.named g.0
closed_again_fits f i (stage.Closed a) g h = tt

pub store_repeats_fit : (f : Frame) (s : Store) → StoreFits f.members.boot s → Every (SentFits f.members.boot) (store_repeats f s)
store_repeats_fit f s h = every_flat (InstanceFits f.members.boot) (SentFits f.members.boot) (λ (i : Instance). closed_again f i i.stage) s.instances (λ i k. closed_again_fits f i i.stage k.stage k) h.instances
