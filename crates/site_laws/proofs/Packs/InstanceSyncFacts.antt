-- What the synchronization site places and grants: an instance of a key once in an epoch.
use Rattle.std.proofs.Common.{◌≡◌, ℕ, List, [], ◌∷◌, Option, Some, None, refl, sym, ◌∙◌, ap, subst, inl, inr}
use Rattle.role_steps.proofs.of_plain_facts.Options.{none_some, some_same}
use Rattle.locus_ids.specs.declared.ids.EpochId.{EpochId}
use Rattle.locus_ids.specs.declared.ids.FileId.{FileId}
use Rattle.locus_ids.specs.declared.ids.Mode.{Mode}
use Rattle.locus_ids.specs.declared.ids.Mode.TheVariants as mode
use Rattle.locus_ids.specs.declared.ids.Serial.{Serial}
use Rattle.locus_ids.specs.declared.sites.Members.{Members}
use Rattle.locus_ids.specs.declared.config.Config.{Config}
use Rattle.wire_messages.specs.declared.body.OpenedAs.{OpenedAs}
use Rattle.wire_messages.specs.declared.body.OpenedAs.TheVariants as opened
use Rattle.role_steps.specs.Own.{Every}
use Rattle.role_steps.specs.Tables.{row}
use Rattle.role_steps.specs.Views.{Frame, Outcome, quiet, sends, and_then, serial_key, sync_site}
use Rattle.role_steps.specs.Opens.{OpenRequest, Decision, Denies, Grants, mode_of, decision, decides, denied_row, asked_row, granted_row, numbered_file, granted_at_once, granted_at_last, repeats_open, on_open_of, takes_open, open_row, open_key, with_open, answers_open, by_stage, on_opened_of, on_opened}
use Rattle.role_steps.specs.declared.synchronizing.SyncTable.{SyncTable}
use Rattle.role_steps.specs.declared.synchronizing.OpenRow.{OpenRow}
use Rattle.role_steps.specs.declared.synchronizing.OpenStage.{OpenStage}
use Rattle.role_steps.specs.declared.synchronizing.OpenStage.TheVariants as stage
use Rattle.role_steps.proofs.Sending.{every_append}
use Rattle.the_run.specs.Kept.{Among}
use Rattle.the_run.proofs.InsideSync.{Found, row_found}
use Rattle.site_laws.proofs.Vectors.SyncFacts.{FoundAt, row_at, every_latest}
use Rattle.site_laws.specs.Packs.InstanceBook.{Note, Listed, Placed, Began, Book, AskedBy, IsFor, PlacedFact, BeganFact, Sound}
use Rattle.site_laws.specs.Packs.InstanceFacts.{OpenedFact, MakeAsked, AnswerFact, PacketFact, MadeFact, GrantFact, WasPlaced, ToldFact, StageFact, OpenFact, own_serial, HasRow, TableFact, Fine}
use Rattle.site_laws.proofs.Packs.InstanceBooks.{Leads, grown_same, grown_then, grown_cons, packets_later, tolds_later, open_later, earlies_later, sound_cons, once_placed, asked_once, boot_same}
use Rattle.site_laws.proofs.Packs.InstanceStoreFacts.{latest_some, latest_same, is_for_self}

-- ---- outcomes ----

-- a note of what this boot of the site places of the group in the epoch
abbrev pub PlacedHere : Frame → ℕ → Note → Type 0
PlacedHere f group (Placed e inst g css boot ss) = (e ≡ f.epoch) × (g ≡ group) × (css ≡ f.me) × (boot ≡ f.boot)
PlacedHere f group _ = ⊥

abbrev pub InTable : Frame → ℕ → Book → SyncTable → Type 0
InTable f group book t = TableFact book f t × (t.group ≡ group)

abbrev pub TableFine : Frame → ℕ → Book → Outcome SyncTable → Type 0
TableFine f group book o = Fine (PlacedHere f group) (InTable f group) f.config book o

-- nothing is placed
pub still : (f : Frame) (group : ℕ) (book : Book) (o : Outcome SyncTable) → Sound f.config book → InTable f group book o.view → Every (PacketFact book) o.sent → Every (ToldFact book) o.told → TableFine f group book o
still f group book o s h sent told = record { book = book; grown = grown_same (PlacedHere f group) book; sound = s; view = h; sent = sent; told = told }

pub table_then : (f : Frame) (group : ℕ) (book : Book) (o : Outcome SyncTable) (g : SyncTable → Outcome SyncTable) → (h : TableFine f group book o) →
    ((b : Book) → Sound f.config b → Leads book b → InTable f group b o.view → TableFine f group b (g o.view)) → TableFine f group book (and_then o g)
table_then f group book o g h next =
    let k : TableFine f group h.book (g o.view) = next h.book h.sound h.grown.leads h.view in
    record {
      book = k.book;
      grown = grown_then (PlacedHere f group) book h.book k.book h.grown k.grown;
      sound = k.sound;
      view = k.view;
      sent = every_append (PacketFact k.book) o.sent (g o.view).sent (packets_later h.book k.book k.grown.leads o.sent h.sent) k.sent;
      told = every_append (ToldFact k.book) o.told (g o.view).told (tolds_later h.book k.book k.grown.leads o.told h.told) k.told;
    }

pub table_open : (book : Book) (f : Frame) (t : SyncTable) (r : OpenRow) → OpenFact book f t.group r → TableFact book f t → TableFact book f (with_open r t)
table_open book f t r k h = record {
  css_is = h.css_is;
  boot_is = h.boot_is;
  opens = every_latest (OpenFact book f t.group) open_key r t.opens k h.opens;
  looks = h.looks;
  early = h.early;
  has = λ inst ss n. (let j : HasRow t inst = h.has inst ss n in latest_some open_key (serial_key inst) r t.opens j.0 j.1);
}

-- ---- opens ----

-- the open that is asked of the table
pub record Comes (f : Frame) (book : Book) (t : SyncTable) (us : ℕ) (o : OpenRequest) : Type 0 where
  pub listed : Among (Listed f.epoch f.members) book
  pub asked : AskedBy book f.members (own_serial us o.serial) o.file o.how
  pub group_is : o.file.group ≡ t.group

one_group : (a b : FileId) (g group : ℕ) → a ≡ b → a.group ≡ g → b.group ≡ group → g ≡ group
one_group a b g group e h k = sym h ∙ (ap (λ (x : FileId). x.group) e ∙ k)

-- of one list of members and one group there is one synchronization site
one_site : (c : Config) (m n : Members) (g group s t : ℕ) → m ≡ n → g ≡ group → sync_site c m g ≡ Some s → sync_site c n group ≡ Some t → s ≡ t
one_site c m n g group s t e k h q = some_same s t (sym h ∙ ((λ i. sync_site c (e i) (k i)) ∙ q))

no_row : (xs : List OpenRow) (k key : ℕ) (r : OpenRow) → k ≡ key → row open_key k xs ≡ Some r → row open_key key xs ≡ None → ⊥
no_row xs k key r e h none = none_some r (sym none ∙ (ap (λ (x : ℕ). row open_key x xs) (sym e) ∙ h))

-- no instance of the key was placed in the epoch, where the table has no row of it
unplaced : (f : Frame) (book : Book) (t : SyncTable) (us : ℕ) (o : OpenRequest) → Sound f.config book → Comes f book t us o → open_row t (own_serial us o.serial) ≡ None → TableFact book f t →
    (a : Serial) (g css d other : ℕ) → serial_key a ≡ serial_key (own_serial us o.serial) → Among (Placed f.epoch a g css d other) book → ⊥
unplaced f book t us o s k none h a g css d other key n =
    let old : PlacedFact f.config book f.epoch a g css d = s.notes (Placed f.epoch a g css d other) n in
    let members : old.members ≡ f.members = s.once.listed f.epoch old.members f.members old.listed k.listed in
    let file : (old.file ≡ o.file) × (old.how ≡ o.how) = asked_once f.config book f.members a (own_serial us o.serial) old.file o.file old.how o.how s key (subst (λ (m : Members). AskedBy book m a old.file old.how) members old.asked) k.asked in
    let group : g ≡ t.group = one_group old.file o.file g t.group file.0 old.group_is k.group_is in
    let site : css ≡ f.me = one_site f.config old.members f.members g t.group css f.me members group old.css_is h.css_is in
    let boot : d ≡ f.boot = boot_same old.members f.members css f.me d f.boot members site old.boot_is (sym h.boot_is) in
    let here : Among (Placed f.epoch a t.group f.me f.boot other) book = placed_there book f.epoch a g t.group css f.me d f.boot other group site boot n in
    let r : HasRow t a = h.has a other here in
    no_row t.opens (serial_key a) (serial_key (own_serial us o.serial)) r.0 key r.1 none
  where
    placed_there : (book : Book) (e : EpochId) (a : Serial) (g group css me d boot other : ℕ) → g ≡ group → css ≡ me → d ≡ boot → Among (Placed e a g css d other) book → Among (Placed e a group me boot other) book
    placed_there book e a g group css me d boot other x y z n = subst (λ (m : Note). Among m book) (λ j. Placed e a (x j) (y j) (z j) other) n

placed_serial : (e : EpochId) (a b : Serial) (g css boot ss h t d s : ℕ) → Placed e a g css boot ss ≡ Placed e b h t d s → b ≡ a
placed_serial e a b g css boot ss h t d s q = cc

no_grant_made : (book : Book) (e : EpochId) (inst : Serial) (file : FileId) (m : Mode) → MadeFact book e inst file m → (x : Mode) → x ≡ m → MadeFact book e inst file x
no_grant_made book e inst file m h x q = subst (λ (y : Mode). MadeFact book e inst file y) (sym q) h

-- the grant of a row that is asked
grant_told : (f : Frame) (book : Book) (t : SyncTable) (us : ℕ) (o : OpenRequest) (r : OpenRow) (m : Mode) → Comes f book t us o → r.inst ≡ own_serial us o.serial → r.file ≡ o.file → r.mode ≡ mode_of o.how → mode_of o.how ≡ m → WasPlaced book f.epoch r.inst r.ss → Every (ToldFact book) (granted_at_once f r m)
grant_told f book t us o r m k inst file same is placed = by_mode m is
  where
    fact : (x : Mode) → mode_of o.how ≡ x → MadeFact book f.epoch r.inst r.file x → GrantFact book f.epoch r.inst r.mode r.file
    fact x q made = record {
      members = f.members;
      listed = k.listed;
      file_asked = o.file;
      how = o.how;
      asked = subst (λ (i : Serial). AskedBy book f.members i o.file o.how) (sym inst) k.asked;
      mode_is = sym same;
      is_for = subst (λ (y : FileId). IsFor r.mode y o.file) (sym file) (is_for_self r.mode o.file);
      made = no_grant_made book f.epoch r.inst r.file x made r.mode (same ∙ q);
    }

    by_mode : (m : Mode) → mode_of o.how ≡ m → Every (ToldFact book) (granted_at_once f r m)
    by_mode mode.Make q = tt
    by_mode mode.Read q = ((fact mode.Read q tt, placed), tt)
    by_mode mode.Write q = ((fact mode.Write q tt, placed), tt)
    by_mode mode.Resolve q = ((fact mode.Resolve q tt, placed), tt)
    by_mode mode.Mend q = ((fact mode.Mend q tt, placed), tt)

-- what is placed is noted, with its row
abbrev new_note : Frame → ℕ → OpenRequest → ℕ → Note
new_note f us o ss = Placed f.epoch (own_serial us o.serial) o.file.group f.me f.boot ss

noted_sound : (f : Frame) (book : Book) (t : SyncTable) (us : ℕ) (o : OpenRequest) (ss : ℕ) → Sound f.config book → Comes f book t us o → open_row t (own_serial us o.serial) ≡ None → TableFact book f t → Sound f.config (new_note f us o ss ∷ book)
noted_sound f book t us o ss s k none h =
    sound_cons f.config (new_note f us o ss) book s
    (record { members = f.members; listed = inr k.listed; file = o.file; how = o.how; asked = inr k.asked; group_is = refl; css_is = ap (λ (g : ℕ). sync_site f.config f.members g) k.group_is ∙ h.css_is; boot_is = sym h.boot_is })
    (once_placed f.epoch (own_serial us o.serial) o.file.group f.me f.boot ss book s.once (unplaced f book t us o s k none h))

noted_table : (f : Frame) (book : Book) (t : SyncTable) (us : ℕ) (o : OpenRequest) (ss : ℕ) (r : OpenRow) → r.inst ≡ own_serial us o.serial → OpenFact (new_note f us o ss ∷ book) f t.group r → TableFact book f t → TableFact (new_note f us o ss ∷ book) f (with_open r t)
noted_table f book t us o ss r inst_is fact h = record {
  css_is = h.css_is;
  boot_is = h.boot_is;
  opens = every_latest (OpenFact next f t.group) open_key r t.opens fact (older t.opens h.opens);
  looks = h.looks;
  early = earlies_later book next leads f t.group t.early h.early;
  has = has_row;
}
  where
    next : Book
    next = new_note f us o ss ∷ book

    leads : Leads book next
    leads n g = inr g

    older : (xs : List OpenRow) → Every (OpenFact book f t.group) xs → Every (OpenFact next f t.group) xs
    older [] g = tt
    older (x ∷ xs) g = (open_later book next leads f t.group x g.0, older xs g.1)

    has_row : (a : Serial) (other : ℕ) → Among (Placed f.epoch a t.group f.me f.boot other) next → HasRow (with_open r t) a
    has_row a other (inl e) = subst (HasRow (with_open r t)) (inst_is ∙ placed_serial f.epoch a (own_serial us o.serial) t.group f.me f.boot other o.file.group f.me f.boot ss e) (latest_same open_key r t.opens)
    has_row a other (inr n) = let j : HasRow t a = h.has a other n in latest_some open_key (serial_key a) r t.opens j.0 j.1

asks_fine : (f : Frame) (book : Book) (t : SyncTable) (us : ℕ) (o : OpenRequest) (d : Decision) → Sound f.config book → Comes f book t us o → open_row t (own_serial us o.serial) ≡ None → TableFact book f t → TableFine f t.group book (decides f t us o d)
asks_fine f book t us o (Denies why) s k none h =
    let r : OpenRow = denied_row us o why in
    let next : Book = new_note f us o 0 ∷ book in
    record {
      book = next;
      grown = grown_cons (PlacedHere f t.group) (new_note f us o 0) book (refl, k.group_is, refl, refl);
      sound = noted_sound f book t us o 0 s k none h;
      view = (noted_table f book t us o 0 r refl (record { file = o.file; how = o.how; asked = inr k.asked; mode_is = refl; group_is = k.group_is; is_for = is_for_self (mode_of o.how) o.file; placed = tt }) h, refl);
      sent = (tt, tt);
      told = (record { members = f.members; listed = inr k.listed; file_asked = o.file; how = o.how; asked = inr k.asked; mode_is = refl; denied = inr (record { group = o.file.group; css = f.me; boot = f.boot; placed = inl refl }) }, tt);
    }
asks_fine f book t us o (Grants ss stamp vector parents set kind) s k none h =
    let r : OpenRow = asked_row us o ss stamp vector parents set kind in
    let next : Book = new_note f us o ss ∷ book in
    record {
      book = next;
      grown = grown_cons (PlacedHere f t.group) (new_note f us o ss) book (refl, k.group_is, refl, refl);
      sound = noted_sound f book t us o ss s k none h;
      view = (noted_table f book t us o ss r refl (record { file = o.file; how = o.how; asked = inr k.asked; mode_is = refl; group_is = k.group_is; is_for = is_for_self (mode_of o.how) o.file; placed = (refl, inl refl) }) h, refl);
      sent = (record { members = f.members; listed = inr k.listed; how = o.how; asked = inr k.asked; mode_is = refl; css = f.me; css_boot = f.boot; placed = inl refl; boot_is = refl }, tt);
      told = grant_told f next t us o r (mode_of o.how) (record { listed = inr k.listed; asked = inr k.asked; group_is = k.group_is }) refl refl refl refl (record { group = o.file.group; css = f.me; boot = f.boot; placed = inl refl });
    }

-- a repeated open
repeats_fact : (book : Book) (f : Frame) (group : ℕ) (r : OpenRow) (s : OpenStage) → Among (Listed f.epoch f.members) book → (k : OpenFact book f group r) → StageFact book f r k.file s → Every (PacketFact book) (repeats_open f r s)
repeats_fact book f group r stage.Asked listed k p = (
  record {
    members = f.members;
    listed = listed;
    how = k.how;
    asked = subst (λ (x : FileId). AskedBy book f.members r.inst x k.how) (sym p.0) k.asked;
    mode_is = k.mode_is;
    css = f.me;
    css_boot = f.boot;
    placed = subst (λ (x : FileId). Among (Placed f.epoch r.inst x.group f.me f.boot r.ss) book) (sym p.0) p.1;
    boot_is = refl;
  },
  tt,
)
repeats_fact book f group r stage.Granted listed k p = (tt, tt)
repeats_fact book f group r (stage.Refused why) listed k p = (tt, tt)
repeats_fact book f group r stage.Ended listed k p = tt

open_of_fine : (f : Frame) (book : Book) (t : SyncTable) (us : ℕ) (o : OpenRequest) (r : Option OpenRow) → open_row t (own_serial us o.serial) ≡ r → Found (OpenFact book f t.group) r → Sound f.config book → Comes f book t us o → TableFact book f t → TableFine f t.group book (on_open_of f t us o r)
open_of_fine f book t us o None none found s k h = asks_fine f book t us o (decision f t us o o.how) s k none h
open_of_fine f book t us o (Some r) some found s k h = still f t.group book (sends (repeats_open f r r.stage) t) s (h, refl) (repeats_fact book f t.group r r.stage k.listed found found.placed) tt

pub takes_open_fine : (f : Frame) (book : Book) (t : SyncTable) (us : ℕ) (o : OpenRequest) → Sound f.config book → Comes f book t us o → TableFact book f t → TableFine f t.group book (takes_open f us o t)
takes_open_fine f book t us o s k h = open_of_fine f book t us o (open_row t (own_serial us o.serial)) refl (row_found (OpenFact book f t.group) open_key (serial_key (own_serial us o.serial)) t.opens h.opens) s k h

-- ---- the storage site's answer ----

numbered_for : (m : Mode) (file asked : FileId) (ino : ℕ) → file ≡ asked → IsFor m (numbered_file m file ino) asked
numbered_for mode.Make file asked ino e = ap (λ (x : FileId). x.group) e
numbered_for mode.Read file asked ino e = e
numbered_for mode.Write file asked ino e = e
numbered_for mode.Resolve file asked ino e = e
numbered_for mode.Mend file asked ino e = e

-- what a make is granted is what was begun
made_begun : (f : Frame) (book : Book) (inst : Serial) (r : OpenRow) (group ino : ℕ) → Sound f.config book → Among (Listed f.epoch f.members) book → (k : OpenFact book f group r) → r.file ≡ k.file → r.mode ≡ mode.Make → open_key r ≡ serial_key inst → OpenedFact book f.epoch inst ino →
    MadeFact book f.epoch r.inst (record { group = r.file.group; ino = ino }) mode.Make
made_begun f book inst r group ino s listed k file_is make key a =
    let old : BeganFact book f.epoch inst a.ss a.boot a.file = s.notes (Began f.epoch inst a.ss a.boot a.file) a.began in
    let members : old.members ≡ f.members = s.once.listed f.epoch old.members f.members old.listed listed in
    let same : (old.file_asked ≡ k.file) × (old.how ≡ k.how) = asked_once f.config book f.members inst r.inst old.file_asked k.file old.how k.how s (sym key) (subst (λ (m : Members). AskedBy book m inst old.file_asked old.how) members old.asked) k.asked in
    let is_make : mode_of old.how ≡ mode.Make = ap mode_of same.1 ∙ (k.mode_is ∙ make) in
    let group : a.file.group ≡ old.file_asked.group = subst (λ (m : Mode). IsFor m a.file old.file_asked) is_make old.is_for in
    let file : a.file ≡ record { group = r.file.group; ino = ino } = file_eq a.file r.file.group ino (group ∙ (ap (λ (x : FileId). x.group) same.0 ∙ ap (λ (x : FileId). x.group) (sym file_is))) a.ino_is in
    (a.ss, a.boot, inst, sym key, subst (λ (x : FileId). Among (Began f.epoch inst a.ss a.boot x) book) file a.began)
  where
    file_eq : (x : FileId) (group ino : ℕ) → x.group ≡ group → x.ino ≡ ino → x ≡ record { group = group; ino = ino }
    file_eq x group ino e g = λ i. record { group = e i; ino = g i }

last_told : (f : Frame) (book : Book) (inst : Serial) (r : OpenRow) (group ino size : ℕ) (m : Mode) → Sound f.config book → Among (Listed f.epoch f.members) book → (k : OpenFact book f group r) → r.file ≡ k.file → r.mode ≡ m → open_key r ≡ serial_key inst → OpenedFact book f.epoch inst ino → WasPlaced book f.epoch r.inst r.ss → Every (ToldFact book) (granted_at_last f (granted_row r ino size) m)
last_told f book inst r group ino size mode.Make s listed k file_is make key a placed = (
  (
    record {
      members = f.members;
      listed = listed;
      file_asked = k.file;
      how = k.how;
      asked = k.asked;
      mode_is = k.mode_is;
      is_for = numbered_for r.mode r.file k.file ino file_is;
      made = subst (λ (m : Mode). MadeFact book f.epoch r.inst (numbered_file m r.file ino) m) (sym make) (made_begun f book inst r group ino s listed k file_is make key a);
    },
    placed,
  ),
  tt,
)
last_told f book inst r group ino size mode.Read s listed k file_is make key a placed = tt
last_told f book inst r group ino size mode.Write s listed k file_is make key a placed = tt
last_told f book inst r group ino size mode.Resolve s listed k file_is make key a placed = tt
last_told f book inst r group ino size mode.Mend s listed k file_is make key a placed = tt

-- what can't be begun is a make
is_make : (f : Frame) (book : Book) (inst : Serial) (r : OpenRow) (group : ℕ) → Sound f.config book → Among (Listed f.epoch f.members) book → (k : OpenFact book f group r) → open_key r ≡ serial_key inst → MakeAsked book f.epoch inst → r.mode ≡ mode.Make
is_make f book inst r group s listed k key a =
    let members : a.members ≡ f.members = s.once.listed f.epoch a.members f.members a.listed listed in
    let same : (a.file ≡ k.file) × (a.how ≡ k.how) = asked_once f.config book f.members inst r.inst a.file k.file a.how k.how s (sym key) (subst (λ (m : Members). AskedBy book m inst a.file a.how) members a.asked) k.asked in
    sym k.mode_is ∙ (sym (ap mode_of same.1) ∙ a.make)

answers_fine : (f : Frame) (book : Book) (inst : Serial) (r : OpenRow) (a : OpenedAs) (t : SyncTable) → Sound f.config book → Among (Listed f.epoch f.members) book → (k : OpenFact book f t.group r) → r.file ≡ k.file → open_key r ≡ serial_key inst → WasPlaced book f.epoch r.inst r.ss → AnswerFact book f.epoch inst a → TableFact book f t → TableFine f t.group book (answers_open f r a t)
answers_fine f book inst r (opened.Open ino size) t s listed k file_is key placed a h =
    let q : OpenRow = granted_row r ino size in
    still f t.group book (answers_open f r (opened.Open ino size) t) s
    (table_open book f t q (record { file = k.file; how = k.how; asked = k.asked; mode_is = k.mode_is; group_is = k.group_is; is_for = numbered_for r.mode r.file k.file ino file_is; placed = tt }) h, refl)
    (tt, tt) (last_told f book inst r t.group ino size r.mode s listed k file_is refl key a placed)
answers_fine f book inst r (opened.No why) t s listed k file_is key placed a h =
    let q : OpenRow = record r { stage = stage.Refused why } in
    still f t.group book (answers_open f r (opened.No why) t) s
    (table_open book f t q (record { file = k.file; how = k.how; asked = k.asked; mode_is = k.mode_is; group_is = k.group_is; is_for = k.is_for; placed = tt }) h, refl)
    (tt, tt) (record { members = f.members; listed = listed; file_asked = k.file; how = k.how; asked = k.asked; mode_is = k.mode_is; denied = inl (is_make f book inst r t.group s listed k key a) }, tt)

stage_fine : (f : Frame) (book : Book) (inst : Serial) (r : OpenRow) (a : OpenedAs) (x : OpenStage) (t : SyncTable) → Sound f.config book → Among (Listed f.epoch f.members) book → (k : OpenFact book f t.group r) → StageFact book f r k.file x → open_key r ≡ serial_key inst → AnswerFact book f.epoch inst a → TableFact book f t → TableFine f t.group book (by_stage f r a x t)
stage_fine f book inst r a stage.Asked t s listed k p key an h = answers_fine f book inst r a t s listed k p.0 key (record { group = k.file.group; css = f.me; boot = f.boot; placed = p.1 }) an h
stage_fine f book inst r a stage.Granted t s listed k p key an h = still f t.group book (quiet t) s (h, refl) tt tt
stage_fine f book inst r a (stage.Refused why) t s listed k p key an h = still f t.group book (quiet t) s (h, refl) tt tt
stage_fine f book inst r a stage.Ended t s listed k p key an h = still f t.group book (quiet t) s (h, refl) tt tt

opened_of_fine : (f : Frame) (book : Book) (inst : Serial) (a : OpenedAs) (o : Option OpenRow) (t : SyncTable) → FoundAt (OpenFact book f t.group) open_key (serial_key inst) o → Sound f.config book → Among (Listed f.epoch f.members) book → AnswerFact book f.epoch inst a → TableFact book f t → TableFine f t.group book (on_opened_of f a o t)
opened_of_fine f book inst a None t found s listed an h = still f t.group book (quiet t) s (h, refl) tt tt
opened_of_fine f book inst a (Some r) t found s listed an h = stage_fine f book inst r a r.stage t s listed found.1 found.1.placed found.0 an h

pub on_opened_fine : (f : Frame) (book : Book) (inst : Serial) (a : OpenedAs) (t : SyncTable) → Sound f.config book → Among (Listed f.epoch f.members) book → AnswerFact book f.epoch inst a → TableFact book f t → TableFine f t.group book (on_opened f inst a t)
on_opened_fine f book inst a t s listed an h = opened_of_fine f book inst a (open_row t inst) t (row_at (OpenFact book f t.group) open_key (serial_key inst) t.opens h.opens) s listed an h
