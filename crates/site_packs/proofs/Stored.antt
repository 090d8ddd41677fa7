-- What storing a version in one pack makes of the copies of the site.
use Rattle.std.proofs.Common.{◌≡◌, inl, inr, ⊎_elim, ℕ, zero, suc, ◌+◌, ◌*◌, ◌≤◌, ◌<◌, Bool, true, false, List, [], ◌∷◌, length, Option, None, Some, refl, sym, ap, subst, ◌∙◌, arith, cond}
use Rattle.std.specs.Prelude.{OnOk, OnErr, IfErr, map, slice_get, slice_set, is_some, Result, Ok, Err, if◌then◌else◌}
use Rattle.std.specs.Option.{option_map}
use Rattle.locus_ids.specs.Sizes.{inodes_max, pack_pages, inode_span, set_span}
use Rattle.locus_ids.specs.declared.ids.FileId.{FileId}
use Rattle.disk_model.specs.Images.{Torn}
use Rattle.pack_layout.specs.Layout.{area_length, area_at, slot_at}
use Rattle.gate_switch.proofs.Tearing.{torn_widens, torn_stays}
use Rattle.pack_slots.specs.Mounting.{IsSound}
use Rattle.pack_slots.specs.Slots.{HasTables}
use Rattle.inode_pack.proofs.Leaving.{shows_kept}
use Rattle.site_packs.specs.Mounting.{AreSoundBehind}
use Rattle.inode_pack.specs.of_shadow_pages.Working.{Working, content}
use Rattle.disk_model.specs.Disk.{Moment}
use Rattle.pack_slots.specs.of_inode_switch.View.{Version, view, Replaced}
use Rattle.pack_slots.specs.declared.inode_copy.InodeCopy.{InodeCopy}
use Rattle.pack_layout.specs.of_stored_versions.declared.new_version.NewVersion.{NewVersion}
use Rattle.inode_pack.specs.declared.pack_fault.PackFault.{PackFault}
use Rattle.inode_pack.specs.declared.pack_fault.PackFault.TheVariants as pack_says
use Rattle.inode_pack.specs.Pack.{PackState, Stands}
use Rattle.pack_slots.specs.Copies.{AreCopies, copy_of, named_pages}
use Rattle.inode_pack.specs.Committing.{Commits, new_version, commit_calls, commit_answer as pack_answer, MayBeLeft as MayBeLeftIn}
use Rattle.pack_layout.specs.of_stored_versions.Versions.{IsVersion}
use Rattle.role_steps.specs.Tables.{with_row}
use Rattle.role_steps.specs.Storage.{copy_key}
use Rattle.role_steps.specs.declared.copies.FileCopy.{FileCopy}
use Rattle.site_packs.specs.Copies.{copy_in, copies_on}
use Rattle.site_packs.specs.Packs.{PacksState, AreFound, groups_of, pack_group, pack_in, ArePacks, AreShown, copy_at}
use Rattle.site_packs.specs.Committing.{MayBeLeft, IsOfStore, copy_made, room, store_calls}
use Rattle.site_packs.specs.Marking.{Fills}
use Rattle.disk_model.specs.Cut.{Cut}
use Rattle.gate_switch.specs.Gates.{new_gate}
use Rattle.pack_slots.specs.of_inode_switch.Cutting.{IsViewBy}
use Rattle.inode_pack.specs.Cutting.{IsCutCommit, are_both_open}
use Rattle.site_packs.specs.Cutting.{IsCut, both_open_on, file_in}
use Rattle.site_packs.proofs.Fields.{copy_of_fields}
use Rattle.site_packs.proofs.Cutting.{both_but, none_shown}
use Rattle.site_packs.proofs.Mounts.{one_keeps}
use Rattle.site_packs.proofs.Behind.{PackHere, pack_here, set_packs, all_same_but, behind_same, behind_replaced, sound_but}
use Rattle.site_packs.proofs.Reports.{PackFound, found_pack, pages_total, pages_named}
use Rattle.site_packs.proofs.Contents.{copy_found}
use Rattle.site_packs.proofs.Seen.{held_some, held_none}

-- the areas of the packs lie in a row
place_below : (at : ℕ) (packs : List PackState) (pack : PackState) → slice_get packs at ≡ Some pack → at < length (map pack_group packs)
place_below at [] pack is = absurd (let e : None ≡ Some pack = is in cc)
place_below zero (one ∷ packs) pack is = omega arith
place_below (suc at) (one ∷ packs) pack is = let rest = place_below at packs pack is in omega arith

module _ (p : PacksState) (old : List ℕ) (at : ℕ) (file : FileId) (pack : PackState) (given : NewVersion) (bytes : List ℕ) (w : Working) (are : ArePacks 0 0 p.site p.packs) (shown : AreShown p.packs old)
    (place : slice_get p.packs at ≡ Some pack) (is : pack_in file.group p.packs ≡ Some pack) (low : 1 ≤ file.ino) (high : file.ino ≤ inodes_max) (fits : given.set.0 < set_span) (version : IsVersion given w.size) (fills : Fills pack file.ino bytes w old) where
  found : PackFound p.site file.group p.packs old pack
  found = found_pack p.site file.group p.packs old pack are shown is

  -- the place is that of the group
  here : PackHere 0 0 p.site at pack
  here = pack_here 0 0 p.site at p.packs pack are place

  abbrev version_made : Version
  version_made = new_version pack.base file.ino given w old

  abbrev copy : FileCopy
  copy = copy_made file given bytes

  made_is : copy_in pack.group file.ino version_made ≡ copy
  made_is =
      let own = found.own in
      copy_of_fields pack.group file.ino version_made.fields version_made refl ∙ (λ i. record { file = record { group = own i; ino = file.ino }; kind = given.kind; set = given.set; stamp = given.stamp; vector = given.vector; content = fills.is i })

  copy_key_is : copy_key copy ≡ pack.group * inode_span + file.ino
  copy_key_is = let own = found.own in omega arith

  torn_here : (new : List ℕ) → Torn pack.base area_length old new → Torn (area_at (0 + at)) area_length old new
  torn_here new torn = subst (λ (b : ℕ). Torn b area_length old new) here.base torn

  pub replaced : (new : List ℕ) → Torn pack.base area_length old new → Replaced pack.base file.ino (new_version pack.base file.ino given w old) old new
      → copies_on (groups_of p) new ≡ with_row copy_key (copy_made file given bytes) (copies_on (groups_of p) old)
  replaced new torn by = behind_replaced 0 0 p.site at file.ino p.packs pack version_made copy old new are place shown (torn_here new torn) low high by made_is copy_key_is

  pub left : (new : List ℕ) → MayBeLeftIn pack file.ino (new_version pack.base file.ino given w old) old new → MayBeLeft p (copy_made file given bytes) old new
  left new may =
      let base = here.base in
      let below = place_below at p.packs pack place in
      record {
        copies = ⊎_elim
            (λ same. inl (behind_same 0 0 p.site p.packs old new are (all_same_but 0 0 p.site at p.packs pack old new are place shown (torn_here new may.outside) same)))
            (λ by. inr (replaced new may.outside by))
            may.view;
        sound = sound_but 0 0 p.site at p.packs pack old new are place shown (torn_here new may.outside) may.sound;
        tables = one_keeps (0 + at) old new (torn_here new may.outside) (λ ino half low high had. subst (λ (b : ℕ). HasTables b (slot_at b ino half) new) here.base (may.tables ino half low high));
        outside = torn_widens pack.base area_length 1024 (area_length * length (groups_of p)) (omega arith) (omega arith) old new may.outside;
      }

  copies_by : (new : List ℕ) → MayBeLeftIn pack file.ino version_made old new → (b : Bool) → IsViewBy b pack.base file.ino version_made old new → copies_on (groups_of p) new ≡ cond b (with_row copy_key copy (copies_on (groups_of p) old)) (copies_on (groups_of p) old)
  copies_by new may true by = replaced new may.outside by
  copies_by new may false same = behind_same 0 0 p.site p.packs old new are (all_same_but 0 0 p.site at p.packs pack old new are place shown (torn_here new may.outside) same)

  -- the room of the pack
  pub room_is : (free : ℕ) → free + length (named_pages pack.copies) ≡ pack_pages → room p old file.group ≡ free
  room_is free sum =
      let all = pages_total 0 0 p.site file.group p.packs old are shown in
      let named = ap (λ (o : Option PackState). pages_named o) is in
      omega arith

  had : (o : Option InodeCopy) → copy_of pack.copies file.ino ≡ o → is_some (view old pack.base file.ino) ≡ is_some o
  had None e = ap (λ (o : Option Version). is_some o) (held_none pack file.ino old found.here.copies found.shows low high e)
  had (Some one) e = ap (λ (o : Option Version). is_some o) (held_some pack file.ino old one found.here.copies found.shows low high e).seen

  some_made : (group ino : ℕ) (o : Option Version) → is_some (option_map (copy_in group ino) o) ≡ is_some o
  some_made group ino None = refl
  some_made group ino (Some v) = refl

  -- the inode has a copy where the site has one of the file
  pub had_copy : is_some (copy_of pack.copies file.ino) ≡ is_some (copy_at p old file)
  had_copy = sym (ap (λ (o : Option FileCopy). is_some o) (copy_found p old file are shown (omega arith) pack is low high) ∙ some_made file.group file.ino (view old pack.base file.ino) ∙ had (copy_of pack.copies file.ino) refl)

  -- what is left of a write that was cut off
  pub cut_left : (pages : ℕ) (how : Cut) (passed : ℕ) (new : List ℕ) → IsCutCommit pack file.ino (new_version pack.base file.ino given w old) pages how passed old new → IsCut p (copy_made file given bytes) pages how passed old new
  cut_left pages how passed new cut = record {
    left = left new cut.left;
    copies = copies_by new cut.left (new_gate pages how passed) cut.view;
    both = both_but 0 0 p.site at p.packs pack old new are place shown (torn_here new cut.left.outside) file.ino (are_both_open (is_some (copy_of pack.copies file.ino)) pages how passed) cut.both
        ∙ (λ i. cond (are_both_open (had_copy i) pages how passed) (file_in (found.own i) file.ino ∷ []) []);
  }

calls_are : (pages : ℕ) (o : Option InodeCopy) (q : Option FileCopy) → is_some o ≡ is_some q → pages + (if is_some o then 6 else 4) ≡ pages + (4 + cond (is_some q) 2 0)
calls_are pages None None e = omega arith
calls_are pages None (Some x) e = absurd (cc)
calls_are pages (Some c) None e = absurd (cc)
calls_are pages (Some c) (Some x) e = omega arith

-- so many calls as the pack makes
pub calls_same : {T : Type 0} (pages : ℕ) (o : Option InodeCopy) (q : Option FileCopy) (result : Result T PackFault) → is_some o ≡ is_some q → commit_calls pages o result ≡ store_calls pages q result
calls_same pages o q (Ok done) e = calls_are pages o q e
calls_same pages o q (Err pack_says.Disk) e = calls_are pages o q e
calls_same pages o q (Err (pack_says.NoSpace more free)) e = refl
calls_same pages o q (Err pack_says.NoMemory) e = refl

-- ---- the packs after it ----

pub on_ok_map : {T E : Type 0} (r : Result T E) (A B : Type 0) → (A → B) → OnOk r A → OnOk r B
on_ok_map (Ok x) A B f a = f a
on_ok_map (Err e) A B f a = a

same_set : (at : ℕ) (packs : List PackState) (pack : PackState) → slice_get packs at ≡ Some pack → slice_set packs at pack ≡ packs
same_set at [] pack is = absurd (let e : None ≡ Some pack = is in cc)
same_set zero (one ∷ packs) pack is = let e : pack ≡ one = (let f : Some one ≡ Some pack = is in cc) in ap (λ (p : PackState). p ∷ packs) e
same_set (suc at) (one ∷ packs) pack is = ap (λ (l : List PackState). one ∷ l) (same_set at packs pack is)

-- a pack that stands for another one
record StandsFor (pack made : PackState) : Type 0 where
  base : made.base ≡ pack.base
  site : made.site ≡ pack.site
  group : made.group ≡ pack.group

by_result : {T : Type 0} (pack made : PackState) (ino : ℕ) (given : NewVersion) (w : Working) (result : Result T PackFault) → OnErr result (made ≡ pack) → OnOk result (Commits pack ino given w made) → StandsFor pack made
by_result pack made ino given w (Ok x) kept commits = let e = commits.becomes in record { base = ap (λ (p : PackState). p.base) e; site = ap (λ (p : PackState). p.site) e; group = ap (λ (p : PackState). p.group) e }
by_result pack made ino given w (Err x) kept commits = record { base = ap (λ (p : PackState). p.base) kept; site = ap (λ (p : PackState). p.site) kept; group = ap (λ (p : PackState). p.group) kept }

set_place : (nth least site at : ℕ) (packs : List PackState) (pack made : PackState) → ArePacks nth least site packs → slice_get packs at ≡ Some pack → StandsFor pack made → AreCopies made.copies
    → ArePacks nth least site (slice_set packs at made) × (map pack_group (slice_set packs at made) ≡ map pack_group packs)
set_place nth least site at [] pack made are is same copies = absurd (let e : None ≡ Some pack = is in cc)
set_place nth least site zero (one ∷ packs) pack made are is same copies =
    let e : one ≡ pack = (let f : Some one ≡ Some pack = is in cc) in
    let group : made.group ≡ one.group = same.group ∙ ap pack_group (sym e) in
    let low = are.0.low in
    let high = are.0.high in (
      (
        record {
          base = same.base ∙ ap (λ (p : PackState). p.base) (sym e) ∙ are.0.base;
          site = same.site ∙ ap (λ (p : PackState). p.site) (sym e) ∙ are.0.site;
          low = omega arith;
          high = omega arith;
          copies = copies;
        },
        subst (λ (g : ℕ). ArePacks (nth + 1) (g + 1) site packs) (sym group) are.1,
      ),
      ap (λ (g : ℕ). g ∷ map pack_group packs) group,
    )
set_place nth least site (suc at) (one ∷ packs) pack made are is same copies =
    let rest = set_place (nth + 1) (one.group + 1) site at packs pack made are.1 is same copies in
    ((are.0, rest.0), ap (λ (gs : List ℕ). one.group ∷ gs) rest.1)

pub after_packs : {T : Type 0} (p : PacksState) (at : ℕ) (pack made : PackState) (ino : ℕ) (given : NewVersion) (w : Working) (result : Result T PackFault) → ArePacks 0 0 p.site p.packs → slice_get p.packs at ≡ Some pack → AreCopies made.copies
    → OnErr result (made ≡ pack) → OnOk result (Commits pack ino given w made) → ArePacks 0 0 p.site (slice_set p.packs at made) × (map pack_group (slice_set p.packs at made) ≡ map pack_group p.packs)
after_packs p at pack made ino given w result are is good kept commits = set_place 0 0 p.site at p.packs pack made are is (by_result pack made ino given w result kept commits) good

pub stand_packs : {T : Type 0} (p : PacksState) (at : ℕ) (pack made : PackState) (ino : ℕ) (given : NewVersion) (w : Working) (old : List ℕ) (moment : Moment) (result : Result T PackFault) → ArePacks 0 0 p.site p.packs → slice_get p.packs at ≡ Some pack → AreShown p.packs old
    → Torn pack.base area_length old moment.seen → AreCopies made.copies → OnOk result (Commits pack ino given w made) → OnOk result (Stands made moment) → OnOk result (AreFound (slice_set p.packs at made) moment)
stand_packs p at pack made ino given w old moment (Ok x) are is shown torn good commits stands =
    let same = by_result {T = Unit {0}} pack made ino given w (Ok tt) tt commits in
    let base = (pack_here 0 0 p.site at p.packs pack are is).base in
    let all = set_packs 0 0 p.site at p.packs pack made old moment.seen are is shown (subst (λ (b : ℕ). Torn b area_length old moment.seen) base torn) (record { shows = stands.shows; base = same.base; site = same.site; group = same.group; copies = good }) in
    record { settled = stands.settled; shown = all.1 }
stand_packs p at pack made ino given w old moment (Err x) are is shown torn good commits stands = tt

-- and then no file has both gates open
pub none_after : {T : Type 0} (p : PacksState) (at : ℕ) (pack made : PackState) (ino : ℕ) (given : NewVersion) (w : Working) (old : List ℕ) (moment : Moment) (result : Result T PackFault) → ArePacks 0 0 p.site p.packs → slice_get p.packs at ≡ Some pack → AreShown p.packs old
    → Torn pack.base area_length old moment.seen → AreCopies made.copies → OnOk result (Commits pack ino given w made) → OnOk result (Stands made moment) → OnOk result (both_open_on (groups_of p) moment.seen ≡ [])
none_after p at pack made ino given w old moment (Ok x) are is shown torn good commits stands =
    let same = by_result {T = Unit {0}} pack made ino given w (Ok tt) tt commits in
    let base = (pack_here 0 0 p.site at p.packs pack are is).base in
    let all = set_packs 0 0 p.site at p.packs pack made old moment.seen are is shown (subst (λ (b : ℕ). Torn b area_length old moment.seen) base torn) (record { shows = stands.shows; base = same.base; site = same.site; group = same.group; copies = good }) in
    ap (λ (l : List ℕ). both_open_on l moment.seen) (sym all.2) ∙ none_shown 0 0 p.site (slice_set p.packs at made) moment.seen all.0 all.1
none_after p at pack made ino given w old moment (Err x) are is shown torn good commits stands = tt

pub kept_packs : {T : Type 0} (site : ℕ) (p : PacksState) (packs : List PackState) (live : List Bool) (at : ℕ) (pack made : PackState) (result : Result T PackFault) → site ≡ p.site → packs ≡ p.packs → live ≡ p.live → slice_get p.packs at ≡ Some pack → OnErr result (made ≡ pack)
    → OnErr result (◌≡◌ {A = PacksState} (record { site = site; packs = slice_set packs at made; live = live }) p)
kept_packs site p packs live at pack made (Ok x) own same marks is kept = tt
kept_packs site p packs live at pack made (Err x) own same marks is kept =
    let all : slice_set packs at made ≡ p.packs = (λ i. slice_set (same i) at (kept i)) ∙ same_set at p.packs pack is in
    (λ i. record { site = own i; packs = all i; live = marks i })

pub only_of_store : {T : Type 0} (result : Result T PackFault) (pages named space : ℕ) → pages ≤ space → ((free : ℕ) → free + named ≡ pack_pages → space ≡ free)
    → ((more free : ℕ) → result ≡ Err (pack_says.NoSpace more free) → (free < more) × (more ≡ pages) × (free + named ≡ pack_pages)) → IfErr result IsOfStore
only_of_store (Ok x) pages named space le is none = tt
only_of_store (Err pack_says.Disk) pages named space le is none = tt
only_of_store (Err pack_says.NoMemory) pages named space le is none = tt
only_of_store (Err (pack_says.NoSpace more free)) pages named space le is none =
    let h = none more free refl in
    let a = h.0 in
    let b = h.1 in
    let e = is free h.2 in
    absurd (omega arith)

-- ---- nothing is stored ----

pub sound_shown : (nth least site : ℕ) (packs : List PackState) (image : List ℕ) → ArePacks nth least site packs → AreShown packs image → AreSoundBehind nth site (map pack_group packs) image
sound_shown nth least site [] image are shown = tt
sound_shown nth least site (pack ∷ packs) image are shown =
    let one = (shows_kept pack image are.0.copies shown.0).sound in (
      subst (λ (s : ℕ). IsSound (area_at nth) pack.group s image) are.0.site (subst (λ (b : ℕ). IsSound b pack.group pack.site image) are.0.base one),
      sound_shown (nth + 1) (pack.group + 1) site packs image are.1 shown.1,
    )

pub stays : (p : PacksState) (x : FileCopy) (image : List ℕ) → ArePacks 0 0 p.site p.packs → AreShown p.packs image → MayBeLeft p x image image
stays p x image are shown = record {
  copies = inl refl;
  sound = sound_shown 0 0 p.site p.packs image are shown;
  tables = λ nth ino half low high had. had;
  outside = torn_stays 1024 (area_length * length (groups_of p)) image;
}

-- what holds where the disk of a pack failed
pub on_commit : {T : Type 0} (result : Result T PackFault) (A B : Type 0) → (A → B) → OnErr (pack_answer result) A → OnErr (pack_answer result) B
on_commit (Ok x) A B f a = a
on_commit (Err pack_says.Disk) A B f a = f a
on_commit (Err (pack_says.NoSpace more free)) A B f a = a
on_commit (Err pack_says.NoMemory) A B f a = a
