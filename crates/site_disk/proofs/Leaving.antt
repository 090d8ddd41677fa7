-- What a crash within a boot or a format leaves, from what it leaves within the calls of the label and of the packs.
use Rattle.std.proofs.Common.{◌≡◌, inl, inr, ⊎_elim, ℕ, ◌+◌, ◌*◌, ◌≤◌, List, length, sym, ◌∙◌, ap, arith}
use Rattle.disk_model.specs.Images.{Torn}
use Rattle.disk_model.specs.Disk.{Moment, Goes}
use Rattle.disk_model.specs.Moments.{LeavesOnly}
use Rattle.disk_model.proofs.Moments.{goes_more, goes_wider}
use Rattle.std.specs.Prelude.{Result, Ok, Err, OnOk}
use Rattle.gate_switch.proofs.Tearing.{is_outside, torn_widens, torn_joins}
use Rattle.pack_layout.specs.Layout.{area_length, area_at}
use Rattle.site_label.specs.Label.{HasBoot}
use Rattle.site_label.specs.Raising.{MayBeLeft as LabelLeft}
use Rattle.site_label.proofs.Image.{boot_same}
use Rattle.site_packs.specs.Copies.{copies_on}
use Rattle.site_packs.specs.Packs.{areas_end}
use Rattle.site_packs.specs.Mounting.{AreSound, AreKept, AreTablesKept, KeepsCopies, mount_calls}
use Rattle.site_packs.proofs.Areas.{tables_agree}
use Rattle.site_packs.proofs.Mounts.{AgreeBehind, kept_start, kept_agree, copies_kept, sound_kept, sound_behind, gates_agree}
use Rattle.site_disk.specs.Boots.{MayBeLeft}

-- where only the label is torn, all areas agree
pub label_torn : (a b : List ℕ) → Torn 0 1024 a b → AgreeBehind 0 a b
label_torn a b torn m le = record { long = torn.long; each = λ k lt. torn.outside (area_at m + k) (is_outside 0 1024 (area_at m + k) (inr (omega arith))) }

pub label_back : (a b : List ℕ) → Torn 0 1024 a b → AgreeBehind 0 b a
label_back a b torn m le = record { long = sym torn.long; each = λ k lt. sym (torn.outside (area_at m + k) (is_outside 0 1024 (area_at m + k) (inr (omega arith)))) }

kept_by : (site : ℕ) (groups a b : List ℕ) → AreSound site groups a → Torn 0 1024 a b → AreKept 0 site groups a b
kept_by site groups a b sound torn = kept_agree 0 site groups a a b (label_torn a b torn) (kept_start 0 site groups a sound)

-- the label and all areas
pub label_inside : (count : ℕ) (a b : List ℕ) → Torn 0 1024 a b → Torn 0 (areas_end count) a b
label_inside count a b torn = torn_widens 0 1024 0 (areas_end count) (omega arith) (omega arith) a b torn

pub areas_inside : (count : ℕ) (a b : List ℕ) → Torn 1024 (area_length * count) a b → Torn 0 (areas_end count) a b
areas_inside count a b torn = torn_widens 1024 (area_length * count) 0 (areas_end count) (omega arith) (omega arith) a b torn

pub both_inside : (count : ℕ) (a b c : List ℕ) → Torn 0 (areas_end count) a b → Torn 0 (areas_end count) b c → Torn 0 (areas_end count) a c
both_inside count a b c one two = torn_joins 0 (areas_end count) a b c one two

-- the packs mount, and have as many losing gates
pub sound_still : (site : ℕ) (groups a b : List ℕ) → AreSound site groups a → Torn 0 1024 a b → AreSound site groups b
sound_still site groups a b sound torn = sound_kept 0 site groups a b (kept_by site groups a b sound torn)

pub copies_still : (site : ℕ) (groups a b : List ℕ) → AreSound site groups a → Torn 0 1024 a b → copies_on groups b ≡ copies_on groups a
copies_still site groups a b sound torn = copies_kept 0 site groups a b (kept_by site groups a b sound torn)

pub tables_still : (a b : List ℕ) → Torn 0 1024 a b → AreTablesKept a b
tables_still a b torn m = tables_agree (area_at m) a b (label_torn a b torn m (omega arith))

pub tables_joined : (a b c : List ℕ) → AreTablesKept a b → AreTablesKept b c → AreTablesKept a c
tables_joined a b c first later m ino half low high had = later m ino half low high (first m ino half low high had)

pub calls_still : (groups a b : List ℕ) → Torn 0 1024 a b → mount_calls groups b ≡ mount_calls groups a
calls_still groups a b torn = ap (λ (n : ℕ). 2 * n) (gates_agree 0 groups a b (label_torn a b torn))

-- within the boot of the label
pub label_left : (site : ℕ) (groups old c : List ℕ) → AreSound site groups old → LabelLeft site old c → MayBeLeft site groups old c
label_left site groups old c sound left = record {
  number = left.number;
  copies = copies_still site groups old c sound left.outside;
  sound = sound_still site groups old c sound left.outside;
  tables = tables_still old c left.outside;
  outside = label_inside (length groups) old c left.outside;
}

-- within the mount of the packs
pub packs_left : (site : ℕ) (groups old mid c : List ℕ) → AreSound site groups old → LabelLeft site old mid → KeepsCopies site groups mid c → MayBeLeft site groups old c
packs_left site groups old mid c sound left keeps = record {
  number = λ boot has. ⊎_elim
      (λ (same : HasBoot site boot mid). inl (boot_same (area_length * length groups) mid c keeps.outside site boot same))
      (λ (more : HasBoot site (boot + 1) mid). inr (boot_same (area_length * length groups) mid c keeps.outside site (boot + 1) more))
      (left.number boot has);
  copies = keeps.copies ∙ copies_still site groups old mid sound left.outside;
  sound = keeps.sound (sound_still site groups old mid sound left.outside);
  tables = tables_joined old mid c (tables_still old mid left.outside) keeps.tables;
  outside = both_inside (length groups) old mid c (label_inside (length groups) old mid left.outside) (areas_inside (length groups) mid c keeps.outside);
}

-- where a crash leaves only what a step makes of what a read gave, time went on by that step
pub goes_by : {D : Type 0} (moment : D → Moment) (step : List ℕ → List ℕ → Type 0) (mid new : D) (P : List ℕ → Type 0) → ((c : List ℕ) → P c → step (moment mid).seen c) → (moment mid).may_leave (moment mid).seen
    → ((t : ℕ) (c : List ℕ) → t ≤ (moment new).now → (moment new).may_leave c → (moment new).may_have_left t c) → LeavesOnly (moment mid) (moment new) P → Goes step (moment mid) (moment new)
goes_by moment step mid new P is reads counts leaves = record {
  later = leaves.later;
  images = λ c left. ((moment mid).seen, reads, is c (leaves.each c (counts (moment mid).now c leaves.later left)));
  since = λ t c le left. ⊎_elim (λ was. inl was) (λ has. inr ((moment mid).seen, reads, is c has)) (leaves.before t c le left);
}

-- a label that was raised had packs that mount before
pub sound_before : (site : ℕ) (groups a b : List ℕ) → Torn 0 1024 a b → AreSound site groups b → AreSound site groups a
sound_before site groups a b torn sound = sound_behind 0 site groups b a (label_back a b torn) sound

module _ {D : Type 0} (moment : D → Moment) where
  -- the label is written, and then the packs
  pub goes_format : (count : ℕ) (old mid new : D) → Goes (Torn 0 1024) (moment old) (moment mid) → Goes (Torn 1024 (area_length * count)) (moment mid) (moment new) → Goes (Torn 0 (areas_end count)) (moment old) (moment new)
  goes_format count old mid new first later =
      goes_more moment (Torn 1024 (area_length * count)) (Torn 0 (areas_end count)) old mid new (areas_inside count) (both_inside count)
      (goes_wider moment (Torn 0 1024) (Torn 0 (areas_end count)) old mid (label_inside count) first) later

  pub goes_mounted : (count : ℕ) (old mid new : D) → Goes (Torn 0 (areas_end count)) (moment old) (moment mid) → Goes (Torn 1024 (area_length * count)) (moment mid) (moment new) → Goes (Torn 0 (areas_end count)) (moment old) (moment new)
  goes_mounted count old mid new first later =
      goes_more moment (Torn 1024 (area_length * count)) (Torn 0 (areas_end count)) old mid new (areas_inside count) (both_inside count) first later

pub on_ok_any : {T E : Type 0} (r : Result T E) (A : Type 0) → A → OnOk r A
on_ok_any (Ok x) A a = a
on_ok_any (Err e) A a = tt
