-- What a commit leaves, from what the switch of its inode leaves.
use Rattle.std.proofs.Common.{◌≡◌, ℕ, zero, suc, ◌+◌, ◌<◌, Bool, true, false, inl, inr, List, [], ◌∷◌, ◌++◌, length, drop, get_or, Option, None, Some, refl, sym, ap, subst, ◌∙◌, arith, length-append}
use Rattle.std.specs.Prelude.{◌↔◌, Result, Ok, Err, IsErr, IsErrAnd, is_some, if◌then◌else◌}
use Rattle.std.proofs.lemmas.Bool.{false≢true}
use Rattle.locus_ids.specs.Sizes.{page_bytes}
use Rattle.file_content.specs.Pages.{pages_of}
use Rattle.pack_layout.specs.declared.half.Half.{Half}
use Rattle.pack_layout.specs.Layout.{slot_at, page_at, slot_bytes, other_half}
use Rattle.pack_layout.proofs.Halves.{half_most, other_twice}
use Rattle.new_contents.specs.of_shadow_pages.Working.{Working, page_at as shadow_page, count_below}
use Rattle.gate_switch.specs.Switch.{Piece}
use Rattle.gate_switch.specs.Switch.{IsStage, switched, closed, calls_of}
use Rattle.inode_switch.specs.View.{is_open, Version, IsOldOrNew, Replaced}
use Rattle.inode_switch.specs.Replace.{MayReplace, made_bytes, made_version, closing}
use Rattle.disk_model.specs.Moments.{TellsMany}
use Rattle.disk_model.specs.Disk.{Passing}
use Rattle.disk_model.specs.Images.{bytes_at}
use Rattle.disk_model.specs.declared.disk.DiskFault.{DiskFault}
use Rattle.disk_model.specs.declared.disk.DiskFault.TheVariants.{Failed}
use Rattle.inode_switch.proofs.OldOrNew.{stage_view}
use Rattle.inode_switch.proofs.Outside.{stage_in_area}
use Rattle.gate_switch.proofs.Pieces.{torn_same, torn_overwritten}
use Rattle.gate_switch.proofs.Tearing.{bytes_are, is_outside}
use Rattle.inode_pack.proofs.NewCopies.{own_copy}
use Rattle.pack_slots.specs.declared.inode_copy.InodeCopy.{InodeCopy}
use Rattle.stored_versions.specs.declared.new_version.NewVersion.{NewVersion}
use Rattle.inode_pack.specs.declared.pack_fault.PackFault.{PackFault}
use Rattle.inode_pack.specs.declared.pack_fault.PackFault.TheVariants.{Disk, NoSpace}
use Rattle.inode_pack.specs.Pack.{PackState, number_in, Shows}
use Rattle.pack_slots.specs.Copies.{numbers_in, copy_of, ShowsCopy, AreCopies}
use Rattle.new_contents.specs.Changed.{is_changed, piece_at}
use Rattle.inode_pack.specs.Committing.{Makes, MayBeLeft, HoldsPages, with_copy, is_free, is_free_table, tables_over, blocks_over, new_version, next_half}
use Rattle.inode_pack.specs.PagePieces.{page_pieces, table_pieces, block_pieces, pieces_of}
use Rattle.inode_pack.proofs.Setup.{Setup}
use Rattle.inode_pack.proofs.Making.{pieces, may_replace, copy_says, changed_byte, gate_torn, long_pieces, number_below}
use Rattle.inode_pack.proofs.NewContent.{version_made}
use Rattle.disk_model.specs.Cut.{Cut}
use Rattle.gate_switch.specs.Gates.{new_gate}
use Rattle.inode_switch.specs.Cutting.{IsViewBy, IsCutReplacing}
use Rattle.inode_pack.specs.Cutting.{IsCutCommit}
use Rattle.inode_pack.proofs.CutCommit.{cut_both}
use Rattle.inode_pack.proofs.Leaving.{stage_kept, shows_kept, switched_shows}
use Rattle.inode_pack.proofs.TablePlacing.{length-tables}

-- a piece for each changed page
one_piece : (at : ℕ) (o : Option (List ℕ)) → length (piece_at at o) ≡ (if is_some o then 1 else 0)
one_piece at None = refl
one_piece at (Some page) = refl

length-pages : (base : ℕ) (numbers : List ℕ) (w : Working) (n : ℕ) → length (page_pieces base numbers w n) ≡ count_below (is_changed w) n
length-pages base numbers w zero = refl
length-pages base numbers w (suc n) =
    let rest = length-pages base numbers w n in
    let one = one_piece (page_at base (get_or numbers n 0)) (shadow_page w.pages n) in
    omega (arith, length-append (page_pieces base numbers w n) (piece_at (page_at base (get_or numbers n 0)) (shadow_page w.pages n)))

-- before the first call
pub left_at_start : (pack : PackState) (ino : ℕ) (made : Version) (old : List ℕ) → AreCopies pack.copies → Shows pack old → MayBeLeft pack ino made old old
left_at_start pack ino made old are shows =
    let kept = shows_kept pack old are shows in
    record { view = inl (λ i low high. refl); sound = kept.sound; tables = kept.tables; outside = torn_same pack.base 5309440 old }

module _ (pack : PackState) (ino : ℕ) (w : Working) (made : InodeCopy) (s : Setup pack ino w made) (old : List ℕ) (shows : Shows pack old) where
  abbrev gate : ℕ
  gate = slot_at pack.base ino made.half

  abbrev other : ℕ
  other = slot_at pack.base ino (other_half made.half)

  pub same_pieces : (tables : List ℕ) → tables ≡ tables_over (copy_of pack.copies ino) w → pieces_of pack.base made tables w ≡ pieces pack ino w made s
  same_pieces tables e =
      ap (λ (ks : List ℕ). pieces_of pack.base made ks w) e
      ∙ ap (λ (i : ℕ). block_pieces pack.base made (tables_over (copy_of pack.copies ino) w) w ++ record { at = slot_at pack.base i made.half + 1; bytes = drop 1 (slot_bytes made.slot) } ∷ []) s.own

  other_open : (o : Option InodeCopy) → o ≡ copy_of pack.copies ino → made.half ≡ next_half o → ShowsCopy pack.base ino old o → is_some o ≡ is_open old other
  other_open None e half shown = sym (shown.0 (other_half made.half))
  other_open (Some copy) e half shown =
      let f : other_half made.half ≡ copy.half = ap other_half half ∙ other_twice copy.half in
      sym (ap (λ (one : Half). is_open old (slot_at pack.base ino one)) f ∙ (copy_says pack ino w made s old shows ino copy.half copy (sym e) shown.0.bytes).open_gate)

  -- the other slot is open where the inode has a copy
  pub closes_is : is_some (copy_of pack.copies ino) ≡ is_open old other
  closes_is = other_open (copy_of pack.copies ino) refl s.place (shows.copies ino s.low s.high)

  pub stage_left : (version : NewVersion) → Makes (is_free pack.copies) (is_free_table pack.copies) (copy_of pack.copies ino) ino version w made
      → (c : List ℕ) → IsStage (pieces pack ino w made s) gate (closing pack.base ino made.half old) old c → MayBeLeft pack ino (new_version pack.base ino version w old) old c
  stage_left version makes c stage =
      let may = may_replace pack ino w made s old shows in
      let kept = stage_kept pack ino w made s old shows c stage in
      record {
        view = subst (λ (v : Version). IsOldOrNew pack.base ino v old c) (version_made pack ino w made s old shows version makes) (stage_view pack.base ino made.half (pieces pack ino w made s) old may c stage);
        sound = kept.sound;
        tables = kept.tables;
        outside = stage_in_area pack.base ino made.half (pieces pack ino w made s) old may c stage;
      }

  pub pieces_count : length (pieces pack ino w made s) ≡ blocks_over (copy_of pack.copies ino) w + 1
  pieces_count =
      let pages = page_pieces pack.base (numbers_in made) w (pages_of w.size) in
      let ks = tables_over (copy_of pack.copies ino) w in
      let tables = table_pieces pack.base made ks in
      let changed = length-pages pack.base (numbers_in made) w (pages_of w.size) in
      let written = length-tables pack.base made ks in
      omega (arith, changed, written, length-append (pages ++ tables) (record { at = gate + 1; bytes = drop 1 (slot_bytes made.slot) } ∷ []), length-append pages tables)

  calls : (b : Bool) → (let o : Option ℕ = if b then Some other else None in calls_of (pieces pack ino w made s) o) ≡ blocks_over (copy_of pack.copies ino) w + (if b then 6 else 4)
  calls true = let count = pieces_count in omega arith
  calls false = let count = pieces_count in omega arith

  -- how many calls that makes
  pub calls_are : calls_of (pieces pack ino w made s) (closing pack.base ino made.half old) ≡ blocks_over (copy_of pack.copies ino) w + (if is_some (copy_of pack.copies ino) then 6 else 4)
  calls_are = calls (is_open old other) ∙ ap (λ (b : Bool). blocks_over (copy_of pack.copies ino) w + (if b then 6 else 4)) (sym closes_is)

  abbrev new : List ℕ
  new = made_bytes pack.base ino made.half (pieces pack ino w made s) old

  long_new : length new ≡ length old
  long_new = (gate_torn pack ino w made s old shows).long ∙ long_pieces pack ino w made s old shows

  -- closing the old gate leaves the data pages
  after_close : (b : Bool) (p k : ℕ) → (let o : Option ℕ = if b then Some other else None in get_or (closed o new) (page_at pack.base p + k) 0) ≡ get_or new (page_at pack.base p + k) 0
  after_close false p k = refl
  after_close true p k =
      let area = shows.area in
      let high = s.high in
      let long = long_new in
      let most = half_most (other_half made.half) in
      (torn_overwritten new other (0 ∷ []) (omega arith)).outside (page_at pack.base p + k) (is_outside other 1 (page_at pack.base p + k) (inr (omega arith)))

  long_closed : (b : Bool) → (let o : Option ℕ = if b then Some other else None in length (closed o new)) ≡ length new
  long_closed false = refl
  long_closed true = let area = shows.area in let high = s.high in let long = long_new in let most = half_most (other_half made.half) in (torn_overwritten new other (0 ∷ []) (omega arith)).long

  -- a changed page stands at its data page, whole
  pub page_stands : (i : ℕ) (page : List ℕ) → i < pages_of w.size → shadow_page w.pages i ≡ Some page
      → bytes_at (switched (pieces pack ino w made s) gate (closing pack.base ino made.half old) old) (page_at pack.base (number_in (copy_of (with_copy pack ino made).copies ino) i)) page_bytes ≡ page
  page_stands i page lt known =
      let is = own_copy pack.copies ino (Some made) s.low (let count = s.are.count in let high = s.high in omega arith) in
      let n = get_or (numbers_in made) i 0 in
      let full = s.whole i page lt known in
      let b = is_open old other in
      let long = long_closed b in
      let more = long_new in
      let area = shows.area in
      let below = number_below pack ino w made s i lt in
      ap (λ (o : Option InodeCopy). bytes_at (switched (pieces pack ino w made s) gate (closing pack.base ino made.half old) old) (page_at pack.base (number_in o i)) page_bytes) is
      ∙ ap (λ (m : ℕ). bytes_at (switched (pieces pack ino w made s) gate (closing pack.base ino made.half old) old) (page_at pack.base n) m) (sym full)
      ∙ bytes_are (switched (pieces pack ino w made s) gate (closing pack.base ino made.half old) old) page (page_at pack.base n) (omega arith)
      (λ k less. after_close b n k ∙ changed_byte pack ino w made s old shows i k page lt known (omega arith))

-- with the base and the pieces as the switch was given them
module _ (pack : PackState) (ino : ℕ) (w : Working) (made : InodeCopy) (s : Setup pack ino w made) (old : List ℕ) (shows : Shows pack old) (base : ℕ) (given : List Piece) (tables : List ℕ) (at : base ≡ pack.base) (are : given ≡ pieces_of pack.base made tables w)
    (over : tables ≡ tables_over (copy_of pack.copies ino) w) where
  same : given ≡ pieces pack ino w made s
  same = are ∙ same_pieces pack ino w made s old shows tables over

  -- a fact of the one is a fact of the other
  moved : (P : ℕ → List Piece → Type 0) → P pack.base (pieces pack ino w made s) → P base given
  moved P h = subst (λ (b : ℕ). P b given) (sym at) (subst (P pack.base) (sym same) h)

  back : (P : ℕ → List Piece → Type 0) → P base given → P pack.base (pieces pack ino w made s)
  back P h = subst (P pack.base) same (subst (λ (b : ℕ). P b given) at h)

  pub given_may : MayReplace base ino made.half given old
  given_may = moved (λ b l. MayReplace b ino made.half l old) (may_replace pack ino w made s old shows)

  pub given_closes : (closes : Bool) → closes ≡ is_some (copy_of pack.copies ino) → closes ≡ is_open old (slot_at base ino (other_half made.half))
  given_closes closes is = is ∙ moved (λ b l. is_some (copy_of pack.copies ino) ≡ is_open old (slot_at b ino (other_half made.half))) (closes_is pack ino w made s old shows)

  pub given_left : (version : NewVersion) → Makes (is_free pack.copies) (is_free_table pack.copies) (copy_of pack.copies ino) ino version w made
      → (c : List ℕ) → IsStage given (slot_at base ino made.half) (closing base ino made.half old) old c → MayBeLeft pack ino (new_version pack.base ino version w old) old c
  given_left version makes c stage =
      stage_left pack ino w made s old shows version makes c (back (λ b l. IsStage l (slot_at b ino made.half) (closing b ino made.half old) old c) stage)

  pub given_calls : calls_of given (closing base ino made.half old) ≡ blocks_over (copy_of pack.copies ino) w + (if is_some (copy_of pack.copies ino) then 6 else 4)
  given_calls = moved (λ b l. calls_of l (closing b ino made.half old) ≡ blocks_over (copy_of pack.copies ino) w + (if is_some (copy_of pack.copies ino) then 6 else 4)) (calls_are pack ino w made s old shows)

  pub given_shows : (read : List ℕ) → read ≡ switched given (slot_at base ino made.half) (closing base ino made.half old) old → Shows (with_copy pack ino made) read
  given_shows read is =
      subst (λ (l : List ℕ). Shows (with_copy pack ino made) l) (sym is)
      (moved (λ b l. Shows (with_copy pack ino made) (switched l (slot_at b ino made.half) (closing b ino made.half old) old)) (switched_shows pack ino w made s old shows))

  -- its changed pages stand where they are named
  pub given_pages : (read : List ℕ) → read ≡ switched given (slot_at base ino made.half) (closing base ino made.half old) old → HoldsPages (with_copy pack ino made) ino w read
  given_pages read is i page lt known =
      subst (λ (l : List ℕ). bytes_at l (page_at pack.base (number_in (copy_of (with_copy pack ino made).copies ino) i)) page_bytes ≡ page) (sym is)
      (moved (λ b l. bytes_at (switched l (slot_at b ino made.half) (closing b ino made.half old) old) (page_at pack.base (number_in (copy_of (with_copy pack ino made).copies ino) i)) page_bytes ≡ page)
      (page_stands pack ino w made s old shows i page lt known))

  pub given_replaced : (version : NewVersion) → Makes (is_free pack.copies) (is_free_table pack.copies) (copy_of pack.copies ino) ino version w made
      → (read : List ℕ) → Replaced base ino (made_version base ino made.half given old) old read → Replaced pack.base ino (new_version pack.base ino version w old) old read
  given_replaced version makes read done =
      subst (λ (v : Version). Replaced pack.base ino v old read) (version_made pack ino w made s old shows version makes) (back (λ b l. Replaced b ino (made_version b ino made.half l old) old read) done)

  -- a piece for each page and table that is written, and what stands behind the gate
  pub given_blocks_are : length given ≡ blocks_over (copy_of pack.copies ino) w + 1
  given_blocks_are = moved (λ b l. length l ≡ blocks_over (copy_of pack.copies ino) w + 1) (pieces_count pack ino w made s old shows)

  -- what the switch left that was cut off
  pub given_cut : (version : NewVersion) → Makes (is_free pack.copies) (is_free_table pack.copies) (copy_of pack.copies ino) ino version w made → (how : Cut) (passed : ℕ) (c : List ℕ) → MayBeLeft pack ino (new_version pack.base ino version w old) old c
      → IsCutReplacing base ino made.half given (blocks_over (copy_of pack.copies ino) w) how passed old c → IsCutCommit pack ino (new_version pack.base ino version w old) (blocks_over (copy_of pack.copies ino) w) how passed old c
  given_cut version makes how passed c left cut =
      let all = pieces pack ino w made s in
      let own = back (λ b l. IsCutReplacing b ino made.half l (blocks_over (copy_of pack.copies ino) w) how passed old c) cut in
      record {
        left = left;
        view = subst (λ (v : Version). IsViewBy (new_gate (blocks_over (copy_of pack.copies ino) w) how passed) pack.base ino v old c) (version_made pack ino w made s old shows version makes) own.view;
        both = cut_both pack ino made.half all (blocks_over (copy_of pack.copies ino) w) how passed old c s.are shows s.low s.high (closes_is pack ino w made s old shows) own;
      }

-- the fault that is given on
pub given_on : (r : Result (Unit {0}) PackFault) (P : PackFault → Type 0) → IsErr r × IsErrAnd r P → (fault : PackFault) × (r ≡ Err fault) × P fault
given_on (Ok x) P h = absurd (false≢true h.0)
given_on (Err fault) P h = (fault, refl, h.1)

pub same_fault : {T : Type 0} → (r : Result (Unit {0}) PackFault) (fault : PackFault) (pages free : ℕ) (Q : Type 0) → r ≡ Err fault → (let e : Result T PackFault = Err fault in (e ≡ Err (NoSpace pages free)) ↔ Q) → (r ≡ Err (NoSpace pages free)) ↔ Q
same_fault {T} r fault pages free Q is iff = (
  λ e. (let one : fault ≡ NoSpace pages free = (let h : r ≡ Err (NoSpace pages free) = e in cc) in iff.0 (ap (λ (f : PackFault). Err f) one)),
  λ q. (let h = iff.1 q in let one : fault ≡ NoSpace pages free = cc in is ∙ ap (λ (f : PackFault). Err f) one),
)

pub other_answer : {T : Type 0} → (r : Result (Unit {0}) PackFault) (x : T) (pages free : ℕ) (Q : Type 0) → (r ≡ Err (NoSpace pages free) → ⊥) → (let e : Result T PackFault = Ok x in (e ≡ Err (NoSpace pages free)) ↔ Q) → (r ≡ Err (NoSpace pages free)) ↔ Q
other_answer {T} r x pages free Q apart iff = (λ e. absurd (apart e), λ q. absurd (let h = iff.1 q in cc))

pub disk_no_space : (r : Result (Unit {0}) PackFault) (pages free : ℕ) → r ≡ Err Disk → r ≡ Err (NoSpace pages free) → ⊥
disk_no_space r pages free is e = absurd cc

-- the disk's one fault
pub disk_tells : (n m : ℕ) (before after : Passing) (fault : DiskFault) → n ≡ m → TellsMany {T = Unit {0}} {E = DiskFault} n before after (Err fault) → TellsMany {T = Unit {0}} {E = DiskFault} m before after (Err Failed)
disk_tells n m before after Failed e tells = subst (λ (k : ℕ). TellsMany {T = Unit {0}} {E = DiskFault} k before after (Err Failed)) e tells
