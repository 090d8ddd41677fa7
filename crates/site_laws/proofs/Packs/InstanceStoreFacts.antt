-- What the storage site begins: an instance of a key once in an epoch.
use Rattle.std.proofs.Common.{◌≡◌, ℕ, ◌+◌, ◌==◌, Bool, true, false, List, [], ◌∷◌, Option, Some, None, refl, sym, ◌∙◌, ap, subst, inl, inr, arith}
use Rattle.std.proofs.lemmas.Bool.Decides.{nat_tests}
use Rattle.role_steps.proofs.of_plain_facts.Numbers.{equal_self}
use Rattle.role_steps.proofs.of_plain_facts.Options.{none_some}
use Rattle.locus_ids.specs.declared.ids.EpochId.{EpochId}
use Rattle.locus_ids.specs.declared.ids.FileId.{FileId}
use Rattle.locus_ids.specs.declared.ids.Serial.{Serial}
use Rattle.locus_ids.specs.declared.ids.Stamp.{Stamp}
use Rattle.locus_ids.specs.declared.ids.Mode.{Mode}
use Rattle.locus_ids.specs.declared.ids.Mode.TheVariants as mode
use Rattle.locus_ids.specs.declared.refusal.Refusal.TheVariants as refusal
use Rattle.trace_book.specs.declared.operation.Op.{Op}
use Rattle.trace_book.specs.declared.operation.Op.TheVariants as op
use Rattle.trace_book.specs.declared.operation.Outcome.{Outcome as Result}
use Rattle.trace_book.specs.declared.operation.Outcome.TheVariants as result
use Rattle.tree_model.specs.of_file_content.Pages.{ascending}
use Rattle.role_steps.specs.of_file_effects.Effects.{Effect}
use Rattle.role_steps.specs.of_file_effects.Works.{counted}
use Rattle.role_steps.specs.of_file_effects.declared.work.Work.{Work}
use Rattle.wire_messages.specs.declared.packet.Packet.{Packet}
use Rattle.wire_messages.specs.declared.body.Body.{Body}
use Rattle.wire_messages.specs.declared.body.Body.TheVariants as body
use Rattle.wire_messages.specs.declared.body.OpenedAs.TheVariants as opened
use Rattle.wire_messages.specs.declared.body.MadeVersion.{MadeVersion}
use Rattle.wire_messages.specs.declared.body.CloseAnswer.{CloseAnswer}
use Rattle.wire_messages.specs.declared.body.CloseAnswer.TheVariants as closing
use Rattle.role_steps.specs.Own.{Every}
use Rattle.role_steps.specs.Tables.{row, with_latest}
use Rattle.role_steps.specs.Views.{Frame, Store, Told, Begins, Reserves, Outcome, quiet, sends, and_then, to_some, to_sync, sync_site, serial_key}
use Rattle.role_steps.specs.Opens.{mode_of}
use Rattle.role_steps.specs.Storage.{StoreRequest, copy_of, with_version, with_commit, instance_key, instance_of, is_open, own_ino, begun_instance, begins, with_instance, opened_packets, opens, opens_made, on_open_ss_of, on_open_ss, is_spent, copy_made, instance_committed, commits, next_stamp, next_vector, made_version, shut, closed_packets, shuts, shuts_again, closes_owing, closes, on_close_at, on_close_of, on_close, ends_at, on_closed_ok_of, on_closed_ok, closed_again, store_repeats}
use Rattle.role_steps.specs.of_dir_format.Entries.{nothing_seen}
use Rattle.role_steps.specs.Operations.{acts, acts_committed, commits_owing, last_committed, commit_op, executes_effect, executes, op_again, by_number, on_op_at, on_op_of, on_op, in_form, nothing_to_mend, on_read_held}
use Rattle.role_steps.specs.OperationEffects.{Mending, effect_of}
use Rattle.role_steps.specs.declared.copies.FileCopy.{FileCopy}
use Rattle.role_steps.specs.declared.instances.Instance.{Instance}
use Rattle.role_steps.specs.declared.instances.Stage.{Stage}
use Rattle.role_steps.specs.declared.instances.Stage.TheVariants as stage
use Rattle.role_steps.proofs.Rows.{passed_row, found_row}
use Rattle.role_steps.proofs.HeldReads.{held_read_sent}
use Rattle.role_steps.proofs.Sending.{every_append, every_cond, every_flat_map}
use Rattle.the_run.specs.Kept.{Among}
use Rattle.the_run.proofs.InsideSync.{Found, row_found}
use Rattle.site_laws.proofs.Vectors.SyncFacts.{every_latest}
use Rattle.site_laws.specs.Packs.InstanceBook.{Note, Began, Book, IsFor, BeganFact, Sound}
use Rattle.site_laws.specs.Packs.InstanceFacts.{OpenSsFact, PacketFact, NoFact, Factless, ToldFact, InstanceFact, HasInstance, StoreFact, Fine}
use Rattle.site_laws.proofs.Packs.InstanceBooks.{factless, grown_same, grown_cons, sound_cons, once_began, boot_same}
use Rattle.site_laws.proofs.Packs.InstanceUsersFacts.{sync_body}

-- ---- rows in the order in which they came ----

other_key : (a b t : ℕ) → (a == b) ≡ true → (b == t) ≡ false → (a == t) ≡ false
other_key a b t e h = grind (arith, nat_tests)

some_row : {A : Type 0} (x : A) (rest : Option A) (b : Bool) → (b ≡ false → (i : A) × (rest ≡ Some i)) → (i : A) × (◌≡◌ {A = Option A} (elim b [ true ↦ Some x | false ↦ rest ]) (Some i))
some_row x rest true f = (x, refl)
some_row x rest false f = f refl

-- a key that is found is found after a row was put in place
pub latest_some : {A : Type 0} (key : A → ℕ) (k : ℕ) (x : A) (xs : List A) (j : A) → row key k xs ≡ Some j → (i : A) × (row key k (with_latest key x xs) ≡ Some i)
latest_some key k x [] j h = absurd (none_some j h)
latest_some key k x (y ∷ ys) j h =
    (elim (key y == key x) as (λ b. (key y == key x) ≡ b → (i : _) × (row key k (elim b [ true ↦ x ∷ ys | false ↦ y ∷ with_latest key x ys ]) ≡ Some i)) [
      | true ↦ λ e. some_row x (row key k ys) (key x == k) (λ q. (j, sym (passed_row y (row key k ys) (key y == k) (other_key (key y) (key x) k e q)) ∙ h))
      | false ↦ λ e. some_row y (row key k (with_latest key x ys)) (key y == k) (λ q. latest_some key k x ys j (sym (passed_row y (row key k ys) (key y == k) q) ∙ h))
    ]) refl

-- and its own key is found
pub latest_same : {A : Type 0} (key : A → ℕ) (x : A) (xs : List A) → (i : A) × (row key (key x) (with_latest key x xs) ≡ Some i)
latest_same key x [] = (x, found_row x None (key x == key x) (equal_self (key x)))
latest_same key x (y ∷ ys) =
    elim (key y == key x) as (λ b. (i : _) × (row key (key x) (elim b [ true ↦ x ∷ ys | false ↦ y ∷ with_latest key x ys ]) ≡ Some i)) [
      | true ↦ (x, found_row x (row key (key x) ys) (key x == key x) (equal_self (key x)))
      | false ↦ some_row y (row key (key x) (with_latest key x ys)) (key y == key x) (λ q. latest_same key x ys)
    ]

-- ---- stores ----

abbrev pub InStore : Frame → Book → Store → Type 0
InStore f book s = StoreFact book f.epoch f.me f.boot s

-- a note of what this boot of the site begins in the epoch
abbrev pub BeganHere : Frame → Note → Type 0
BeganHere f (Began e inst ss boot file) = (e ≡ f.epoch) × (ss ≡ f.me) × (boot ≡ f.boot)
BeganHere f _ = ⊥

abbrev pub StoreFine : Frame → Book → Outcome Store → Type 0
StoreFine f book o = Fine (BeganHere f) (InStore f) f.config book o

abbrev Here : Frame → Book → Instance → Type 0
Here f book i = InstanceFact book f.epoch f.me f.boot i

puts_instance : (f : Frame) (book : Book) (i : Instance) (s : Store) → Here f book i → InStore f book s → InStore f book (with_instance i s)
puts_instance f book i s k h = record {
  instances = every_latest (Here f book) instance_key i s.instances k h.instances;
  has = λ inst file n. (let j : HasInstance s inst = h.has inst file n in latest_some instance_key (serial_key inst) i s.instances j.0 j.1);
}

with_version_fact : (f : Frame) (book : Book) (x : FileCopy) (pages : List ℕ) (s : Store) → InStore f book s → InStore f book (with_version x pages s)
with_version_fact f book x pages s h = record { instances = h.instances; has = h.has }

-- no instance is begun, and what is sent and told says nothing of one
pub record StorePlain (f : Frame) (book : Book) (o : Outcome Store) : Type 0 where
  pub view : InStore f book o.view
  pub sent : Every Factless o.sent
  pub told : (b : Book) → Every (ToldFact b) o.told

quiet_plain : (f : Frame) (book : Book) (s : Store) → InStore f book s → StorePlain f book (quiet s)
quiet_plain f book s h = record { view = h; sent = tt; told = λ b. tt }

sends_plain : (f : Frame) (book : Book) (ps : List Packet) (s : Store) → Every Factless ps → InStore f book s → StorePlain f book (sends ps s)
sends_plain f book ps s k h = record { view = h; sent = k; told = λ b. tt }

then_plain : (f : Frame) (book : Book) (o : Outcome Store) (g : Store → Outcome Store) → StorePlain f book o → StorePlain f book (g o.view) → StorePlain f book (and_then o g)
then_plain f book o g h k = record { view = k.view; sent = every_append Factless o.sent (g o.view).sent h.sent k.sent; told = λ b. every_append (ToldFact b) o.told (g o.view).told (h.told b) (k.told b) }

some_factless : (f : Frame) (b : Body) (o : Option ℕ) → NoFact b → Every Factless (to_some f b o)
some_factless f b None h = tt
some_factless f b (Some to) h = (h, tt)

pub sync_factless : (f : Frame) (group : ℕ) (b : Body) → NoFact b → Every Factless (to_sync f group b)
sync_factless f group b h = some_factless f b (sync_site f.config f.members group) h

-- ---- opens ----

opened_fact : (book : Book) (f : Frame) (i : Instance) → Here f book i → Every (PacketFact book) (opened_packets f i)
opened_fact book f i h = sync_body book f i.file.group (body.Opened i.inst (opened.Open i.file.ino i.size)) (λ to. record { ss = f.me; boot = f.boot; file = i.file; began = h; ino_is = refl })

pub is_for_self : (m : Mode) (file : FileId) → IsFor m file file
is_for_self mode.Read file = refl
is_for_self mode.Write file = refl
is_for_self mode.Resolve file = refl
is_for_self mode.Mend file = refl
is_for_self mode.Make file = refl

abbrev OpenSsHere : Frame → Book → StoreRequest → Type 0
OpenSsHere f book r = OpenSsFact book f.epoch f.me f.boot r.inst r.file r.mode

no_instance : (xs : List Instance) (k key : ℕ) (i : Instance) → k ≡ key → row instance_key k xs ≡ Some i → row instance_key key xs ≡ None → ⊥
no_instance xs k key i e h none = none_some i (sym none ∙ (ap (λ (x : ℕ). row instance_key x xs) (sym e) ∙ h))

-- no instance of the key was begun in the epoch, where the store has none
unbegun : (f : Frame) (book : Book) (r : StoreRequest) (s : Store) → Sound f.config book → OpenSsHere f book r → instance_of s r.inst ≡ None → InStore f book s →
    (a : Serial) (t d : ℕ) (g : FileId) → serial_key a ≡ serial_key r.inst → Among (Began f.epoch a t d g) book → ⊥
unbegun f book r s sound k none h a t d g key n =
    let old : BeganFact book f.epoch a t d g = sound.notes (Began f.epoch a t d g) n in
    let members : old.members ≡ k.members = sound.once.listed f.epoch old.members k.members old.listed k.listed in
    let site : t ≡ f.me = sound.once.placed f.epoch a r.inst old.file_asked.group old.css old.css_boot t r.file.group k.css k.css_boot f.me key old.placed k.placed in
    let boot : d ≡ f.boot = boot_same old.members k.members t f.me d f.boot members site old.boot_is k.boot_is in
    let i : HasInstance s a = h.has a g (subst (λ (x : ℕ). Among (Began f.epoch a f.me x g) book) boot (subst (λ (x : ℕ). Among (Began f.epoch a x d g) book) site n)) in
    no_instance s.instances (serial_key a) (serial_key r.inst) i.0 key i.1 none

began_serial : (e : EpochId) (a b : Serial) (ss boot : ℕ) (f g : FileId) → Began e a ss boot f ≡ Began e b ss boot g → b ≡ a
began_serial e a b ss boot f g h = cc

-- an instance is begun on this file
begins_fine : (f : Frame) (book : Book) (r : StoreRequest) (file : FileId) (x : Option FileCopy) (told : List Told) (s : Store) → Sound f.config book → (k : OpenSsHere f book r) → IsFor (mode_of k.how) file r.file → instance_of s r.inst ≡ None → InStore f book s →
    ((b : Book) → Among (Began f.epoch r.inst f.me f.boot file) b → Every (ToldFact b) told) → StoreFine f book (begins f (begun_instance r file x) told s)
begins_fine f book r file x told s sound k is_for none h tells = record {
  book = new ∷ book;
  grown = grown_cons (BeganHere f) new book (refl, refl, refl);
  sound = sound_cons f.config new book sound fact (once_began f.epoch r.inst f.me f.boot file book sound.once (unbegun f book r s sound k none h));
  view = record { instances = every_latest (Here f (new ∷ book)) instance_key i s.instances (inl refl) (older s.instances h.instances); has = has };
  sent = opened_fact (new ∷ book) f i (inl refl);
  told = tells (new ∷ book) (inl refl);
}
  where
    new : Note
    new = Began f.epoch r.inst f.me f.boot file

    i : Instance
    i = begun_instance r file x

    fact : BeganFact (new ∷ book) f.epoch r.inst f.me f.boot file
    fact = record { members = k.members; listed = inr k.listed; file_asked = r.file; how = k.how; asked = inr k.asked; is_for = is_for; css = k.css; css_boot = k.css_boot; placed = inr k.placed; boot_is = k.boot_is }

    older : (xs : List Instance) → Every (Here f book) xs → Every (Here f (new ∷ book)) xs
    older [] g = tt
    older (y ∷ ys) g = (inr g.0, older ys g.1)

    has : (inst : Serial) (g : FileId) → Among (Began f.epoch inst f.me f.boot g) (new ∷ book) → HasInstance (with_instance i s) inst
    has inst g (inl e) = subst (HasInstance (with_instance i s)) (began_serial f.epoch inst r.inst f.me f.boot g file e) (latest_same instance_key i s.instances)
    has inst g (inr n) = let j : HasInstance s inst = h.has inst g n in latest_some instance_key (serial_key inst) i s.instances j.0 j.1

pub store_fine : (f : Frame) (book : Book) (o : Outcome Store) → Sound f.config book → StorePlain f book o → StoreFine f book o
store_fine f book o sound h = record { book = book; grown = grown_same (BeganHere f) book; sound = sound; view = h.view; sent = factless book o.sent h.sent; told = h.told book }

opens_made_fine : (f : Frame) (book : Book) (r : StoreRequest) (o : Option ℕ) (s : Store) → Sound f.config book → (k : OpenSsHere f book r) → r.mode ≡ mode.Make → instance_of s r.inst ≡ None → InStore f book s → StoreFine f book (opens_made f r o s)
opens_made_fine f book r None s sound k is_make none h = record { book = book; grown = grown_same (BeganHere f) book; sound = sound; view = h; sent = sync_body book f r.file.group (body.Opened r.inst (opened.No refusal.NoInode)) (λ to. record { members = k.members; listed = k.listed; file = r.file; how = k.how; asked = k.asked; make = k.mode_is ∙ is_make }); told = tt }
opens_made_fine f book r (Some ino) s sound k is_make none h =
    let file : FileId = record { group = r.file.group; ino = ino } in
    begins_fine f book r file None (Begins f.me f.epoch r.inst file ∷ Reserves f.me f.epoch r.inst file ∷ []) s sound k (subst (λ (m : Mode). IsFor m file r.file) (sym (k.mode_is ∙ is_make)) refl) none h (λ b n. ((f.boot, n), (tt, tt)))

opens_plain_fine : (f : Frame) (book : Book) (r : StoreRequest) (s : Store) → Sound f.config book → OpenSsHere f book r → instance_of s r.inst ≡ None → InStore f book s → StoreFine f book (begins f (begun_instance r r.file (copy_of s r.file)) (Begins f.me f.epoch r.inst r.file ∷ []) s)
opens_plain_fine f book r s sound k none h = begins_fine f book r r.file (copy_of s r.file) (Begins f.me f.epoch r.inst r.file ∷ []) s sound k (is_for_self (mode_of k.how) r.file) none h (λ b n. ((f.boot, n), tt))

opens_fine : (f : Frame) (book : Book) (r : StoreRequest) (m : Mode) (s : Store) → r.mode ≡ m → Sound f.config book → OpenSsHere f book r → instance_of s r.inst ≡ None → InStore f book s → StoreFine f book (opens f r m s)
opens_fine f book r mode.Make s q sound k none h = opens_made_fine f book r (own_ino s r.file.group f.me) s sound k q none h
opens_fine f book r mode.Read s q sound k none h = opens_plain_fine f book r s sound k none h
opens_fine f book r mode.Write s q sound k none h = opens_plain_fine f book r s sound k none h
opens_fine f book r mode.Resolve s q sound k none h = opens_plain_fine f book r s sound k none h
opens_fine f book r mode.Mend s q sound k none h = opens_plain_fine f book r s sound k none h

open_ss_fine : (f : Frame) (book : Book) (r : StoreRequest) (o : Option Instance) (s : Store) → instance_of s r.inst ≡ o → Found (Here f book) o → Sound f.config book → OpenSsHere f book r → InStore f book s → StoreFine f book (on_open_ss_of f r o s)
open_ss_fine f book r None s none i sound k h = opens_fine f book r r.mode s refl sound k none h
open_ss_fine f book r (Some x) s some i sound k h = record { book = book; grown = grown_same (BeganHere f) book; sound = sound; view = h; sent = every_cond (PacketFact book) (is_open x.stage) (opened_packets f x) [] (opened_fact book f x i) tt; told = tt }

pub on_open_ss_fine : (f : Frame) (book : Book) (r : StoreRequest) (s : Store) → Sound f.config book → OpenSsHere f book r → InStore f book s → StoreFine f book (on_open_ss f r s)
on_open_ss_fine f book r s sound k h = open_ss_fine f book r (instance_of s r.inst) s refl (row_found (Here f book) instance_key (serial_key r.inst) s.instances h.instances) sound k h

-- ---- commits and closes ----

commits_plain : (f : Frame) (book : Book) (i : Instance) (s : Store) → Here f book i → InStore f book s → StorePlain f book (commits f i s)
commits_plain f book i s k h =
    let vector : List ℕ = next_vector f i in
    let stamp : Stamp = next_stamp f vector in
    record { view = puts_instance f book (instance_committed i vector stamp) (with_commit i vector stamp s) k (with_version_fact f book (copy_made i vector stamp) (ascending i.work.changed) s h); sent = tt; told = λ b. (tt, tt) }

closed_factless : (f : Frame) (i : Instance) (made : Option MadeVersion) → Every Factless (closed_packets f i made)
closed_factless f i made = sync_factless f i.file.group (body.Closed i.inst made) tt

shuts_plain : (f : Frame) (book : Book) (i : Instance) (a : CloseAnswer) (s : Store) → Here f book i → InStore f book s → StorePlain f book (shuts f i a s)
shuts_plain f book i a s k h =
    let made : Option MadeVersion = made_version i (copy_of s i.file) i.work.committed in
    record { view = puts_instance f book (shut i made a) s k h; sent = closed_factless f i made; told = λ b. (tt, tt) }

again_plain : (f : Frame) (book : Book) (a : CloseAnswer) (o : Option Instance) (s : Store) → Found (Here f book) o → InStore f book s → StorePlain f book (shuts_again f a o s)
again_plain f book a None s k h = quiet_plain f book s h
again_plain f book a (Some i) s k h = shuts_plain f book i a s k h

found_there : (f : Frame) (book : Book) (s : Store) (inst : Serial) → InStore f book s → Found (Here f book) (instance_of s inst)
found_there f book s inst h = row_found (Here f book) instance_key (serial_key inst) s.instances h.instances

owing_plain : (f : Frame) (book : Book) (i : Instance) (s : Store) → Here f book i → InStore f book s → StorePlain f book (closes_owing f i s)
owing_plain f book i s k h =
    let a : CloseAnswer = closing.Made (next_stamp f (next_vector f i)) in
    let o : Outcome Store = commits f i s in
    let q : StorePlain f book o = commits_plain f book i s k h in
    elim (is_spent f i) as (λ b. StorePlain f book (elim b [ true ↦ shuts f i (closing.No refusal.Spent) s | false ↦ and_then (commits f i s) (λ now. shuts_again f (closing.Made (next_stamp f (next_vector f i))) (instance_of now i.inst) now) ])) [
      | true ↦ shuts_plain f book i (closing.No refusal.Spent) s k h
      | false ↦ then_plain f book o (λ now. shuts_again f a (instance_of now i.inst) now) q (again_plain f book a (instance_of o.view i.inst) o.view (found_there f book o.view i.inst q.view) q.view)
    ]

closes_plain : (f : Frame) (book : Book) (i : Instance) (s : Store) → Here f book i → InStore f book s → StorePlain f book (closes f i s)
closes_plain f book i s k h = elim i.work.owes as (λ b. StorePlain f book (elim b [ true ↦ closes_owing f i s | false ↦ shuts f i closing.Nothing s ])) [ true ↦ owing_plain f book i s k h | false ↦ shuts_plain f book i closing.Nothing s k h ]

close_at_plain : (f : Frame) (book : Book) (i : Instance) (g : Stage) (s : Store) → Here f book i → InStore f book s → StorePlain f book (on_close_at f i g s)
close_at_plain f book i stage.Running s k h = closes_plain f book i s k h
close_at_plain f book i (stage.Closing made a) s k h = sends_plain f book (closed_packets f i made) s (closed_factless f i made) h
close_at_plain f book i (stage.Closed a) s k h = sends_plain f book _ s (tt, tt) h

close_of_plain : (f : Frame) (book : Book) (o : Option Instance) (s : Store) → Found (Here f book) o → InStore f book s → StorePlain f book (on_close_of f o s)
close_of_plain f book None s k h = quiet_plain f book s h
close_of_plain f book (Some i) s k h = close_at_plain f book i i.stage s k h

pub on_close_plain : (f : Frame) (book : Book) (inst : Serial) (s : Store) → InStore f book s → StorePlain f book (on_close f inst s)
on_close_plain f book inst s h = close_of_plain f book (instance_of s inst) s (found_there f book s inst h) h

ends_at_plain : (f : Frame) (book : Book) (i : Instance) (g : Stage) (s : Store) → Here f book i → InStore f book s → StorePlain f book (ends_at f i g s)
ends_at_plain f book i stage.Running s k h = quiet_plain f book s h
ends_at_plain f book i (stage.Closing made a) s k h = record { view = puts_instance f book (record i { stage = stage.Closed a }) s k h; sent = (tt, tt); told = λ b. tt }
ends_at_plain f book i (stage.Closed a) s k h = quiet_plain f book s h

closed_ok_plain : (f : Frame) (book : Book) (o : Option Instance) (s : Store) → Found (Here f book) o → InStore f book s → StorePlain f book (on_closed_ok_of f o s)
closed_ok_plain f book None s k h = quiet_plain f book s h
closed_ok_plain f book (Some i) s k h = ends_at_plain f book i i.stage s k h

pub on_closed_ok_plain : (f : Frame) (book : Book) (inst : Serial) (s : Store) → InStore f book s → StorePlain f book (on_closed_ok f inst s)
on_closed_ok_plain f book inst s h = closed_ok_plain f book (instance_of s inst) s (found_there f book s inst h) h

-- ---- operations ----

acts_plain : (f : Frame) (book : Book) (i : Instance) (o : Op) (r : Result) (w : Work) (s : Store) → Here f book i → InStore f book s → StorePlain f book (acts f i o r w s)
acts_plain f book i o r w s k h = record { view = puts_instance f book (record i { work = w; answered = Some r }) s k h; sent = (tt, tt); told = λ b. (tt, tt) }

effect_plain : (f : Frame) (book : Book) (i : Instance) (o : Op) (e : Option Effect) (s : Store) → Here f book i → InStore f book s → StorePlain f book (executes_effect f i o e s)
effect_plain f book i o None s k h = quiet_plain f book s h
effect_plain f book i o (Some e) s k h = acts_plain f book i o _ _ s k h

acts_committed_plain : (f : Frame) (book : Book) (stamp : Stamp) (o : Option Instance) (s : Store) → Found (Here f book) o → InStore f book s → StorePlain f book (acts_committed f stamp o s)
acts_committed_plain f book stamp None s k h = quiet_plain f book s h
acts_committed_plain f book stamp (Some i) s k h = acts_plain f book i op.Commit (result.Committed stamp) (counted i.work) s k h

commits_owing_plain : (f : Frame) (book : Book) (i : Instance) (s : Store) → Here f book i → InStore f book s → StorePlain f book (commits_owing f i s)
commits_owing_plain f book i s k h =
    let stamp : Stamp = next_stamp f (next_vector f i) in
    let o : Outcome Store = commits f i s in
    let q : StorePlain f book o = commits_plain f book i s k h in
    elim (is_spent f i) as (λ b. StorePlain f book (elim b [ true ↦ acts f i op.Commit (result.No refusal.Spent) (counted i.work) s | false ↦ and_then (commits f i s) (λ now. acts_committed f (next_stamp f (next_vector f i)) (instance_of now i.inst) now) ])) [
      | true ↦ acts_plain f book i op.Commit (result.No refusal.Spent) (counted i.work) s k h
      | false ↦ then_plain f book o (λ now. acts_committed f stamp (instance_of now i.inst) now) q (acts_committed_plain f book stamp (instance_of o.view i.inst) o.view (found_there f book o.view i.inst q.view) q.view)
    ]

last_plain : (f : Frame) (book : Book) (i : Instance) (o : Option Stamp) (s : Store) → Here f book i → InStore f book s → StorePlain f book (last_committed f i o s)
last_plain f book i None s k h = quiet_plain f book s h
last_plain f book i (Some stamp) s k h = acts_plain f book i op.Commit (result.Committed stamp) (counted i.work) s k h

commit_op_plain : (f : Frame) (book : Book) (i : Instance) (s : Store) → Here f book i → InStore f book s → StorePlain f book (commit_op f i s)
commit_op_plain f book i s k h = elim i.work.owes as (λ b. StorePlain f book (elim b [ true ↦ commits_owing f i s | false ↦ last_committed f i i.work.last s ])) [ true ↦ commits_owing_plain f book i s k h | false ↦ last_plain f book i i.work.last s k h ]

executes_plain : (f : Frame) (book : Book) (m : Mending) (i : Instance) (o : Op) (seen : List ℕ) (s : Store) → Here f book i → InStore f book s → StorePlain f book (executes f m i o seen s)
executes_plain f book m i op.Commit seen s k h = commit_op_plain f book i s k h
executes_plain f book m i op.Abort seen s k h = acts_plain f book i op.Abort result.Done _ s k h
executes_plain f book m i (op.Probe name) seen s k h = effect_plain f book i (op.Probe name) (effect_of (op.Probe name) seen m i.work.content) s k h
executes_plain f book m i (op.Find component) seen s k h = effect_plain f book i (op.Find component) (effect_of (op.Find component) seen m i.work.content) s k h
executes_plain f book m i (op.Insert name ino kind) seen s k h = effect_plain f book i (op.Insert name ino kind) (effect_of (op.Insert name ino kind) seen m i.work.content) s k h
executes_plain f book m i (op.Remove name ino) seen s k h = effect_plain f book i (op.Remove name ino) (effect_of (op.Remove name ino) seen m i.work.content) s k h
executes_plain f book m i (op.Rename component name) seen s k h = effect_plain f book i (op.Rename component name) (effect_of (op.Rename component name) seen m i.work.content) s k h
executes_plain f book m i op.Empty seen s k h = effect_plain f book i op.Empty (effect_of op.Empty seen m i.work.content) s k h
executes_plain f book m i (op.Read at len) seen s k h = effect_plain f book i (op.Read at len) (effect_of (op.Read at len) seen m i.work.content) s k h
executes_plain f book m i (op.Write at bytes) seen s k h = effect_plain f book i (op.Write at bytes) (effect_of (op.Write at bytes) seen m i.work.content) s k h
executes_plain f book m i (op.Cut len) seen s k h = effect_plain f book i (op.Cut len) (effect_of (op.Cut len) seen m i.work.content) s k h
executes_plain f book m i op.Mend seen s k h = effect_plain f book i op.Mend (effect_of op.Mend seen m i.work.content) s k h

op_again_factless : (f : Frame) (i : Instance) (n : ℕ) (o : Option Result) → Every Factless (op_again f i n o)
op_again_factless f i n None = tt
op_again_factless f i n (Some r) = (tt, tt)

by_number_plain : (f : Frame) (book : Book) (m : Mending) (i : Instance) (n : ℕ) (o : Op) (seen : List ℕ) (s : Store) → Here f book i → InStore f book s → StorePlain f book (by_number f m i n o seen s)
by_number_plain f book m i n o seen s k h =
    elim (n == i.work.ops) as (λ b. StorePlain f book (elim b [ true ↦ sends (op_again f i n i.answered) s | false ↦ elim (n == i.work.ops + 1) [ true ↦ executes f m i o seen s | false ↦ quiet s ] ])) [
      | true ↦ sends_plain f book (op_again f i n i.answered) s (op_again_factless f i n i.answered) h
      | false ↦ elim (n == i.work.ops + 1) as (λ b. StorePlain f book (elim b [ true ↦ executes f m i o seen s | false ↦ quiet s ])) [
        | true ↦ executes_plain f book m i o seen s k h
        | false ↦ quiet_plain f book s h
      ]
    ]

op_at_plain : (f : Frame) (book : Book) (m : Mending) (i : Instance) (g : Stage) (n : ℕ) (o : Op) (seen : List ℕ) (s : Store) → Here f book i → InStore f book s → StorePlain f book (on_op_at f m i g n o seen s)
op_at_plain f book m i stage.Running n o seen s k h = by_number_plain f book m i n o seen s k h
op_at_plain f book m i (stage.Closing made a) n o seen s k h = quiet_plain f book s h
op_at_plain f book m i (stage.Closed a) n o seen s k h = quiet_plain f book s h

op_of_plain : (f : Frame) (book : Book) (m : Mending) (i : Option Instance) (n : ℕ) (o : Op) (seen : List ℕ) (s : Store) → Found (Here f book) i → InStore f book s → StorePlain f book (on_op_of f m i n o seen s)
op_of_plain f book m None n o seen s k h = quiet_plain f book s h
op_of_plain f book m (Some i) n o seen s k h = op_at_plain f book m i i.stage n o seen s k h

pub on_op_plain : (f : Frame) (book : Book) (m : Mending) (inst : Serial) (n : ℕ) (o : Op) (seen : List ℕ) (s : Store) → InStore f book s → StorePlain f book (on_op f m inst n o seen s)
on_op_plain f book m inst n o seen s h = op_of_plain f book m (instance_of s inst) n o seen s (found_there f book s inst h) h

-- a held read is the operation that it stands for, but for the form of its answer
form_plain : (f : Frame) (book : Book) (i : Option Instance) (o : Outcome Store) → Every Factless (in_form i o).sent → StorePlain f book o → StorePlain f book (in_form i o)
form_plain f book None o g h = h
form_plain f book (Some i) o g h = record { view = h.view; sent = g; told = h.told }

pub on_read_held_plain : (f : Frame) (book : Book) (inst : Serial) (n at len : ℕ) (s : Store) → InStore f book s → StorePlain f book (on_read_held f inst n at len s)
on_read_held_plain f book inst n at len s h =
    form_plain f book (instance_of s inst) (on_op f nothing_to_mend inst n (op.Read at len) nothing_seen s)
    (held_read_sent Factless f (λ to serial m r. tt) (λ to serial m l. tt) inst n at len s) (on_op_plain f book nothing_to_mend inst n (op.Read at len) nothing_seen s h)

-- ---- repeats ----

closed_again_factless : (f : Frame) (i : Instance) (g : Stage) → Every Factless (closed_again f i g)
closed_again_factless f i stage.Running = tt
closed_again_factless f i (stage.Closing made a) = closed_factless f i made
closed_again_factless f i (stage.Closed a) = tt

pub store_repeats_factless : (f : Frame) (s : Store) → Every Factless (store_repeats f s)
store_repeats_factless f s = every_flat_map Factless (λ (i : Instance). closed_again f i i.stage) s.instances (λ i. closed_again_factless f i i.stage)
