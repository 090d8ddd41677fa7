-- What a crash within a commit leaves is a sound pack.
use Rattle.std.proofs.Common.{◌≡◌, ◌≢◌, ℕ, ◌+◌, ◌%◌, ◌<◌, ◌≤◌, Bool, true, false, inl, inr, ⊎_elim, List, [], ◌∷◌, length, get_or, Option, None, Some, refl, sym, ap, subst, ◌∙◌, arith}
use Rattle.std.specs.Prelude.{◌==◌, IfSome, if◌then◌else◌}
use Rattle.std.proofs.lemmas.Bool.{cases_eq, cases_Bool, cases_lt, eqb-true}
use Rattle.locus_ids.specs.Sizes.{inodes_max, page_bytes}
use Rattle.disk_model.specs.Images.{bytes_at, overwritten, is_within, Torn}
use Rattle.file_content.specs.Pages.{pages_of, tables_of}
use Rattle.pack_layout.specs.declared.half.Half.{Half}
use Rattle.pack_layout.specs.Layout.{slot_at, table_at, slot_bytes, half_number, other_half}
use Rattle.pack_layout.proofs.Halves.{half_most, half_sum, other_twice, cases_half}
use Rattle.new_contents.specs.of_shadow_pages.Working.{Working}
use Rattle.gate_switch.specs.Switch.{Piece}
use Rattle.gate_switch.specs.Switch.{touches, written, closed, switched, TornGate, IsStage}
use Rattle.inode_switch.specs.View.{is_open, turn}
use Rattle.inode_switch.specs.Replace.{made_bytes, closing}
use Rattle.inode_switch.specs.Slots.{HoldsTables}
use Rattle.gate_switch.proofs.Pieces.{torn_written, torn_overwritten, put_gate}
use Rattle.gate_switch.proofs.Tearing.{same_bytes}
use Rattle.pack_slots.specs.declared.inode_copy.InodeCopy.{InodeCopy}
use Rattle.inode_pack.specs.Pack.{PackState, Shows}
use Rattle.pack_slots.specs.Copies.{numbers_in, copy_of, IsPackOf, IsCopy, ShowsSlot, ShowsTables, ShowsCopy, AreCopies}
use Rattle.pack_slots.specs.Slots.{HasNumbers, IsFound}
use Rattle.pack_slots.specs.Mounting.{IsSound}
use Rattle.inode_pack.specs.Committing.{next_half, next_turn, with_copy}
use Rattle.inode_pack.proofs.Placing.{is_outside}
use Rattle.inode_pack.proofs.Setup.{Setup, copy_is, table_named}
use Rattle.inode_pack.proofs.Making.{pieces, shut, open_of, open_copy, copy_says, spared_slot, spared_table, may_replace, gate_torn, new_holds, new_tables, apart_slots, long_pieces}
use Rattle.inode_pack.proofs.NewCopies.{own_copy, other_copy, copies_after}
use Rattle.pack_slots.proofs.SoundPack.{AllFound, found_sound}

-- the slots of an inode whose bytes stay
slots_same : (base i : ℕ) (a b : List ℕ) (o : Option InodeCopy) → length b ≡ length a → ((half : Half) (k : ℕ) → k < 512 → get_or b (slot_at base i half + k) 0 ≡ get_or a (slot_at base i half + k) 0) → ShowsSlot base i a o → ShowsSlot base i b o
slots_same base i a b None long same shows = λ half.
    let e : slot_at base i half + 0 ≡ slot_at base i half = omega arith in
    ap (λ (n : ℕ). n == 165) (subst (λ (n : ℕ). get_or b n 0 ≡ get_or a n 0) e (same half 0 (omega arith))) ∙ shows half
slots_same base i a b (Some copy) long same shows =
    let e : slot_at base i (other_half copy.half) + 0 ≡ slot_at base i (other_half copy.half) = omega arith in
    record {
      bytes = same_bytes a b (slot_at base i copy.half) 512 long (λ k lt. same copy.half k lt) ∙ shows.bytes;
      other = ap (λ (n : ℕ). n == 165) (subst (λ (n : ℕ). get_or b n 0 ≡ get_or a n 0) e (same (other_half copy.half) 0 (omega arith))) ∙ shows.other;
    }

-- and its tables
tables_same : (base : ℕ) (a b : List ℕ) (o : Option InodeCopy) → length b ≡ length a
    → ((copy : InodeCopy) (x k : ℕ) → o ≡ Some copy → x < tables_of (pages_of copy.slot.size) → k < 1024 → get_or b (table_at base (get_or copy.slot.tables x 0) + k) 0 ≡ get_or a (table_at base (get_or copy.slot.tables x 0) + k) 0)
    → ShowsTables base a o → ShowsTables base b o
tables_same base a b None long same shown = tt
tables_same base a b (Some copy) long same shown = λ x inside. same_bytes a b (table_at base (get_or copy.slot.tables x 0)) 1024 long (λ k lt. same copy x k refl inside lt) ∙ shown x inside

-- an open slot of a copy that is shown has its tables
shown_numbers : (base i : ℕ) (half : Half) (image : List ℕ) (o : Option InodeCopy) → IfSome o (λ one. IsCopy i one) → ShowsCopy base i image o → is_open image (slot_at base i half) ≡ true → HasNumbers base (slot_at base i half) image
shown_numbers base i half image o own shows is =
    let c = open_of base i half image o shows is in
    let copy : IsCopy i c.0 = subst (λ (x : Option InodeCopy). IfSome x (λ one. IsCopy i one)) c.1 own in
    record { slot = c.0.slot; more = c.0.more; bytes = c.3; is = copy.slot; has = record { tables = subst (λ (x : Option InodeCopy). ShowsTables base image x) c.1 shows.1; pages = copy.pages } }

-- a sound image of the pack, each open slot of which has its tables
pub record IsIntact (pack : PackState) (image : List ℕ) : Type 0 where
  pub sound : IsSound pack.base pack.group pack.site image
  pub tables : (i : ℕ) (half : Half) → 1 ≤ i → i ≤ inodes_max → is_open image (slot_at pack.base i half) ≡ true → HasNumbers pack.base (slot_at pack.base i half) image

module _ (pack : PackState) (ino : ℕ) (w : Working) (made : InodeCopy) (s : Setup pack ino w made) (old : List ℕ) (shows : Shows pack old) where
  abbrev gate : ℕ
  gate = slot_at pack.base ino made.half

  abbrev other : ℕ
  other = slot_at pack.base ino (other_half made.half)

  abbrev all : List Piece
  all = pieces pack ino w made s

  abbrev new : List ℕ
  new = made_bytes pack.base ino made.half (pieces pack ino w made s) old

  abbrev after : PackState
  after = with_copy pack ino made

  small : half_number made.half ≤ 1
  small = half_most made.half

  sum : half_number (other_half made.half) + half_number made.half ≡ 1
  sum = half_sum made.half

  -- the bytes of a slot but that which is written, and the first one of that too
  spared : (i : ℕ) (half : Half) (k : ℕ) → k < 512 → 1 ≤ i → i ≤ inodes_max → slot_at pack.base i half ≢ gate → touches all (slot_at pack.base i half + k) ≡ false
  spared i half k lt low high apart = let most = half_most half in spared_slot pack ino w made s (slot_at pack.base i half + k) (omega arith) (apart_slots pack.base i half ino made.half k lt low s.low (inr apart))

  -- an image where at most the pieces and the two gates changed
  module _ (c : List ℕ) (long : length c ≡ length old) (each : (k : ℕ) → touches all k ≡ false → k ≢ gate → k ≢ other → get_or c k 0 ≡ get_or old k 0) where
    pub named_still : IsPackOf pack.base pack.group pack.site c
    named_still = same_bytes old c pack.base page_bytes long (λ k lt. each (pack.base + k) (spared_slot pack ino w made s (pack.base + k) (omega arith) (is_outside (gate + 1) 511 (pack.base + k) (inl (omega arith)))) (λ e. omega arith) (λ e. omega arith)) ∙ shows.named

    -- the tables of the pack's copies stay
    table_still : (i : ℕ) (copy : InodeCopy) (x k : ℕ) → copy_of pack.copies i ≡ Some copy → x < tables_of (pages_of copy.slot.size) → k < 1024 → get_or c (table_at pack.base (get_or copy.slot.tables x 0) + k) 0 ≡ get_or old (table_at pack.base (get_or copy.slot.tables x 0) + k) 0
    table_still i copy x k held inside lt =
        let is = copy_is pack.copies i copy s.are held in
        let number = get_or copy.slot.tables x 0 in
        let p = small in let q = sum in let h = s.high in let l = s.low in
        each (table_at pack.base number + k) (spared_table pack ino w made s number k (is.slot.tables.inside x inside) lt (table_named pack.copies i x copy s.are held inside)) (λ e. omega arith) (λ e. omega arith)

    tables_still : (i : ℕ) → 1 ≤ i → i ≤ inodes_max → ShowsTables pack.base c (copy_of pack.copies i)
    tables_still i low high = tables_same pack.base old c (copy_of pack.copies i) long (table_still i) (shows.copies i low high).1

    others_still : (i : ℕ) → 1 ≤ i → i ≤ inodes_max → i ≢ ino → ShowsCopy pack.base i c (copy_of pack.copies i)
    others_still i low high ne = (
      slots_same pack.base i old c (copy_of pack.copies i) long
          (λ half k lt. let l = s.low in let p = small in let q = sum in let most = half_most half in each (slot_at pack.base i half + k) (spared i half k lt low high (λ e. ne (omega arith))) (λ e. ne (omega arith)) (λ e. ne (omega arith)))
          (shows.copies i low high).0,
      tables_still i low high,
    )

  -- the new slot isn't open: the pack is as it was
  module _ (c : List ℕ) (long : length c ≡ length old) (each : (k : ℕ) → touches all k ≡ false → k ≢ gate → get_or c k 0 ≡ get_or old k 0) (is_shut : is_open c gate ≡ false) where
    other_same : (k : ℕ) → k < 512 → get_or c (other + k) 0 ≡ get_or old (other + k) 0
    other_same k lt =
        let p = small in let q = sum in let l = s.low in let h = s.high in
        let apart : other ≢ gate = (λ e. omega arith) in
        each (other + k) (spared ino (other_half made.half) k lt s.low s.high apart) (λ e. omega arith)

    other_open : is_open c other ≡ is_open old other
    other_open = let e : other + 0 ≡ other = omega arith in ap (λ (n : ℕ). n == 165) (subst (λ (n : ℕ). get_or c n 0 ≡ get_or old n 0) e (other_same 0 (omega arith)))

    slots_of : (o : Option InodeCopy) → made.half ≡ next_half o → ShowsSlot pack.base ino old o → ShowsSlot pack.base ino c o
    slots_of None e shown = λ half. ⊎_elim
        (λ (same : half ≡ made.half). ap (λ (one : Half). is_open c (slot_at pack.base ino one)) same ∙ is_shut)
        (λ (f : half ≡ other_half made.half). ap (λ (one : Half). is_open c (slot_at pack.base ino one)) f ∙ other_open ∙ shown (other_half made.half))
        (cases_half half made.half)
    slots_of (Some copy) e shown =
        let f : other_half made.half ≡ copy.half = ap other_half e ∙ other_twice copy.half in
        record {
          bytes = subst (λ (half : Half). bytes_at c (slot_at pack.base ino half) 512 ≡ slot_bytes copy.slot) f
              (same_bytes old c other 512 long other_same ∙ ap (λ (half : Half). bytes_at old (slot_at pack.base ino half) 512) f ∙ shown.bytes);
          other = ap (λ (half : Half). is_open c (slot_at pack.base ino half)) (sym e) ∙ is_shut;
        }

    still_shows : (i : ℕ) → 1 ≤ i → i ≤ inodes_max → ShowsCopy pack.base i c (copy_of pack.copies i)
    still_shows i low high = ⊎_elim
        (λ (e : i ≡ ino). (
          subst (λ (n : ℕ). ShowsSlot pack.base n c (copy_of pack.copies n)) (sym e) (slots_of (copy_of pack.copies ino) s.place (shows.copies ino s.low s.high).0),
          tables_still c long (λ k none a b. each k none a) i low high,
        ))
        (λ (ne : i ≢ ino). others_still c long (λ k none a b. each k none a) i low high ne)
        (cases_eq i ino)

    pub still_kept : IsIntact pack c
    still_kept = record {
      sound = found_sound pack.base pack.group pack.site c pack.copies s.are (named_still c long (λ k none a b. each k none a)) (λ i low high. (false, record { says = (still_shows i low high).0; own = s.are.own i; tables = (still_shows i low high).1 }));
      tables = λ i half low high is. shown_numbers pack.base i half c (copy_of pack.copies i) (s.are.own i) (still_shows i low high) is;
    }

  -- the new slot is open: the pack has the new copy, alone or beside the old one
  module _ (c : List ℕ) (long : length c ≡ length new) (each : (k : ℕ) → k ≢ other → get_or c k 0 ≡ get_or new k 0) (opens : is_open c other ≡ true → is_open old other ≡ true) where
    as_old : (k : ℕ) → touches all k ≡ false → k ≢ gate → k ≢ other → get_or c k 0 ≡ get_or old k 0
    as_old k none a b =
        each k b ∙ (gate_torn pack ino w made s old shows).outside k (is_outside gate 1 k (⊎_elim (λ (lt : k < gate). inl lt) (λ (ge : gate ≤ k). inr (⊎_elim (λ (less : k < gate + 1). absurd (a (omega arith))) (λ (more : gate + 1 ≤ k). more) (cases_lt k (gate + 1)))) (cases_lt k gate)))
        ∙ (torn_written all old (may_replace pack ino w made s old shows).within).outside k none

    long_old : length c ≡ length old
    long_old = long ∙ (gate_torn pack ino w made s old shows).long ∙ long_pieces pack ino w made s old shows

    own_bytes : bytes_at c gate 512 ≡ slot_bytes made.slot
    own_bytes = let q = sum in let l = s.low in same_bytes new c gate 512 long (λ k lt. each (gate + k) (λ e. omega arith)) ∙ new_holds pack ino w made s old shows

    own_tables : HoldsTables c pack.base made.slot (numbers_in made)
    own_tables = λ x inside.
        let p = small in let q = sum in let h = s.high in let l = s.low in
        same_bytes new c (table_at pack.base (get_or made.slot.tables x 0)) 1024 long (λ k lt. each (table_at pack.base (get_or made.slot.tables x 0) + k) (λ e. omega arith))
        ∙ new_tables pack ino w made s old shows x inside

    own_copy_is : IsCopy ino made
    own_copy_is = record { slot = s.slot; own = s.own; pages = s.names }

    alone : is_open c other ≡ false → ShowsCopy pack.base ino c (Some made)
    alone is = (record { bytes = own_bytes; other = is }, own_tables)

    -- the old slot where it is still open
    old_copy : is_open c other ≡ true → (copy : InodeCopy) × (copy_of pack.copies ino ≡ Some copy) × (bytes_at c other 512 ≡ slot_bytes copy.slot) × (turn c other ≡ copy.slot.turn)
    old_copy is =
        let q = sum in
        let l = s.low in
        let was = opens is in
        let o = open_copy pack ino w made s old shows ino (other_half made.half) s.low s.high was in
        let t = copy_says pack ino w made s old shows ino (other_half made.half) o.0 o.1 o.3 in
        let apart : other ≢ gate = (λ e. omega arith) in
        let byte : (k : ℕ) → k < 512 → get_or c (other + k) 0 ≡ get_or old (other + k) 0 = (λ k lt. ⊎_elim
        (λ (e : k ≡ 0). let f : other + k ≡ other = omega arith in ap (λ (n : ℕ). get_or c n 0) f ∙ eqb-true (get_or c other 0) 165 is ∙ sym (eqb-true (get_or old other 0) 165 was) ∙ sym (ap (λ (n : ℕ). get_or old n 0) f))
        (λ (ne : k ≢ 0). as_old (other + k) (spared ino (other_half made.half) k lt s.low s.high apart) (λ e. omega arith) (λ e. omega arith))
        (cases_eq k 0)) in
        (o.0, o.1, same_bytes old c other 512 long_old byte ∙ o.3, byte 1 (omega arith) ∙ t.turn)

    beside : is_open c other ≡ true → IsFound pack.base ino c (Some made) true
    beside is =
        let o = old_copy is in
        let copy = o.0 in
        let is_copy = copy_is pack.copies ino copy s.are o.1 in
        let turn_is = o.3 in
        let few = is_copy.slot.turn in
        record {
          says = record {
            bytes = own_bytes;
            beside = is;
            other = record { slot = copy.slot; bytes = o.2; is = is_copy.slot; own = is_copy.own };
            next = (omega arith, s.turn ∙ ap next_turn o.1 ∙ ap (λ (n : ℕ). (n + 1) % 3) (sym turn_is));
          };
          own = own_copy_is;
          tables = own_tables;
        }

    own_found : (loses : Bool) × IsFound pack.base ino c (Some made) loses
    own_found = ⊎_elim
        (λ (is : is_open c other ≡ true). (true, beside is))
        (λ (is : is_open c other ≡ false). (false, record { says = (alone is).0; own = own_copy_is; tables = own_tables }))
        (cases_Bool (is_open c other))

    own_is : copy_of after.copies ino ≡ Some made
    own_is = let count = s.are.count in let high = s.high in own_copy pack.copies ino (Some made) s.low (omega arith)

    other_is : (i : ℕ) → i ≢ ino → copy_of after.copies i ≡ copy_of pack.copies i
    other_is i ne = other_copy pack.copies ino i (Some made) s.low ne

    others_show : (i : ℕ) → 1 ≤ i → i ≤ inodes_max → i ≢ ino → ShowsCopy pack.base i c (copy_of after.copies i)
    others_show i low high ne = subst (λ (o : Option InodeCopy). ShowsCopy pack.base i c o) (sym (other_is i ne)) (others_still c long_old as_old i low high ne)

    now_found : AllFound pack.base c after.copies
    now_found = λ i low high. ⊎_elim
        (λ (e : i ≡ ino). subst (λ (n : ℕ). (loses : Bool) × IsFound pack.base n c (copy_of after.copies n) loses) (sym e) (subst (λ (o : Option InodeCopy). (loses : Bool) × IsFound pack.base ino c o loses) (sym own_is) own_found))
        (λ (ne : i ≢ ino). (false, record { says = (others_show i low high ne).0; own = (copies_after pack ino w made s).own i; tables = (others_show i low high ne).1 }))
        (cases_eq i ino)

    -- each open slot has its tables
    old_numbers : is_open c other ≡ true → HasNumbers pack.base other c
    old_numbers is =
        let o = old_copy is in
        let copy = o.0 in
        let is_copy = copy_is pack.copies ino copy s.are o.1 in
        let tables : HoldsTables c pack.base copy.slot (numbers_in copy) = subst (λ (x : Option InodeCopy). ShowsTables pack.base c x) o.1 (tables_still c long_old as_old ino s.low s.high) in
        record { slot = copy.slot; more = copy.more; bytes = o.2; is = is_copy.slot; has = record { tables = tables; pages = is_copy.pages } }

    own_numbers : (half : Half) → is_open c (slot_at pack.base ino half) ≡ true → HasNumbers pack.base (slot_at pack.base ino half) c
    own_numbers half is = ⊎_elim
        (λ (e : half ≡ made.half). subst (λ (one : Half). HasNumbers pack.base (slot_at pack.base ino one) c) (sym e) (record { slot = made.slot; more = made.more; bytes = own_bytes; is = s.slot; has = record { tables = own_tables; pages = s.names } }))
        (λ (e : half ≡ other_half made.half). subst (λ (one : Half). HasNumbers pack.base (slot_at pack.base ino one) c) (sym e) (old_numbers (subst (λ (one : Half). is_open c (slot_at pack.base ino one) ≡ true) e is)))
        (cases_half half made.half)

    pub now_kept : IsIntact pack c
    now_kept = record {
      sound = found_sound pack.base pack.group pack.site c after.copies (copies_after pack ino w made s) (named_still c long_old as_old) now_found;
      tables = λ i half low high is. ⊎_elim
          (λ (e : i ≡ ino). subst (λ (n : ℕ). HasNumbers pack.base (slot_at pack.base n half) c) (sym e) (own_numbers half (subst (λ (n : ℕ). is_open c (slot_at pack.base n half) ≡ true) e is)))
          (λ (ne : i ≢ ino). shown_numbers pack.base i half c (copy_of pack.copies i) (s.are.own i) (others_still c long_old as_old i low high ne) is)
          (cases_eq i ino);
    }

    -- with the old slot closed the image is the new pack
    pub now_shows : is_open c other ≡ false → Shows after c
    now_shows is = record {
      area = (let a = shows.area in let l = long_old in omega arith);
      named = named_still c long_old as_old;
      copies = λ i low high. ⊎_elim
          (λ (e : i ≡ ino). subst (λ (n : ℕ). ShowsCopy pack.base n c (copy_of after.copies n)) (sym e) (subst (λ (o : Option InodeCopy). ShowsCopy pack.base ino c o) (sym own_is) (alone is)))
          (λ (ne : i ≢ ino). others_show i low high ne)
          (cases_eq i ino);
    }

  -- the gate of the slot beside it stays, and is another one
  apart_gates : other ≢ gate
  apart_gates e = let q = sum in omega arith

  other_stays : get_or (written old all) other 0 ≡ get_or old other 0
  other_stays = (torn_written all old (may_replace pack ino w made s old shows).within).outside other ((may_replace pack ino w made s old shows).gates ino (other_half made.half) s.low s.high)

  not_gate : (k : ℕ) → k ≢ gate → is_within gate 1 k ≡ false
  not_gate k ne = is_outside gate 1 k (⊎_elim (λ (lt : k < gate). inl lt) (λ (ge : gate ≤ k). inr (⊎_elim (λ (less : k < gate + 1). absurd (ne (omega arith))) (λ (more : gate + 1 ≤ k). more) (cases_lt k (gate + 1)))) (cases_lt k gate))

  not_other : (k : ℕ) → k ≢ other → is_within other 1 k ≡ false
  not_other k ne = is_outside other 1 k (⊎_elim (λ (lt : k < other). inl lt) (λ (ge : other ≤ k). inr (⊎_elim (λ (less : k < other + 1). absurd (ne (omega arith))) (λ (more : other + 1 ≤ k). more) (cases_lt k (other + 1)))) (cases_lt k other))

  new_gate : get_or new gate 0 ≡ 165
  new_gate = put_gate (written old all) gate 165 (let a = long_pieces pack ino w made s old shows in let area = shows.area in let p = small in let h = s.high in let l = s.low in omega arith)

  torn_kept : (c : List ℕ) → Torn gate 1 (written old all) c → (b : Bool) → is_open c gate ≡ b → IsIntact pack c
  torn_kept c torn true is = now_kept c (torn.long ∙ sym (gate_torn pack ino w made s old shows).long)
      (λ k ne. ⊎_elim
      (λ (e : k ≡ gate). ap (λ (n : ℕ). get_or c n 0) e ∙ eqb-true (get_or c gate 0) 165 is ∙ sym new_gate ∙ sym (ap (λ (n : ℕ). get_or new n 0) e))
      (λ (apart : k ≢ gate). torn.outside k (not_gate k apart) ∙ sym ((gate_torn pack ino w made s old shows).outside k (not_gate k apart)))
      (cases_eq k gate))
      (λ opened. ap (λ (n : ℕ). n == 165) (sym (torn.outside other (not_gate other apart_gates) ∙ other_stays)) ∙ opened)
  torn_kept c torn false is = still_kept c (torn.long ∙ long_pieces pack ino w made s old shows)
      (λ k none ne. torn.outside k (not_gate k ne) ∙ (torn_written all old (may_replace pack ino w made s old shows).within).outside k none) is

  old_gate_kept : (c : List ℕ) (b : Bool) → is_open old other ≡ b → (let o : Option ℕ = if b then Some other else None in TornGate o new c) → IsIntact pack c
  old_gate_kept c false is torn = absurd torn
  old_gate_kept c true is torn = now_kept c torn.long (λ k ne. torn.outside k (not_other k ne)) (λ _. is)

  -- each stage of the switch keeps the pack
  pub stage_kept : (c : List ℕ) → IsStage all gate (closing pack.base ino made.half old) old c → IsIntact pack c
  stage_kept c (inl torn) = still_kept c torn.long (λ k none ne. torn.outside k none)
      (ap (λ (n : ℕ). n == 165) (torn.outside gate ((may_replace pack ino w made s old shows).gates ino made.half s.low s.high)) ∙ shut pack ino w made s old shows)
  stage_kept c (inr (inl torn)) = torn_kept c torn (is_open c gate) refl
  stage_kept c (inr (inr torn)) = old_gate_kept c (is_open old other) refl torn

  other_fits : other + 1 ≤ length new
  other_fits = let a = long_pieces pack ino w made s old shows in let b = (gate_torn pack ino w made s old shows).long in let area = shows.area in let q = sum in let h = s.high in let l = s.low in omega arith

  closed_shows : (b : Bool) → is_open old other ≡ b → (let o : Option ℕ = if b then Some other else None in Shows after (closed o new))
  closed_shows true is =
      let torn = torn_overwritten new other (0 ∷ []) other_fits in
      now_shows (overwritten new other (0 ∷ [])) torn.long (λ k ne. torn.outside k (not_other k ne)) (λ _. is) (ap (λ (n : ℕ). n == 165) (put_gate new other 0 other_fits))
  closed_shows false is =
      let same = (gate_torn pack ino w made s old shows).outside other (not_gate other apart_gates) ∙ other_stays in
      now_shows new refl (λ k ne. refl) (λ opened. ap (λ (n : ℕ). n == 165) (sym same) ∙ opened) (ap (λ (n : ℕ). n == 165) same ∙ is)

  -- and the last one the pack with the new copy
  pub switched_shows : Shows after (switched all gate (closing pack.base ino made.half old) old)
  switched_shows = closed_shows (is_open old other) refl

-- a pack that is shown is sound, and its slots have their tables
pub shows_kept : (pack : PackState) (image : List ℕ) → AreCopies pack.copies → Shows pack image → IsIntact pack image
shows_kept pack image are shows = record {
  sound = found_sound pack.base pack.group pack.site image pack.copies are shows.named (λ ino low high. (false, record { says = (shows.copies ino low high).0; own = are.own ino; tables = (shows.copies ino low high).1 }));
  tables = λ i half low high is. shown_numbers pack.base i half image (copy_of pack.copies i) (are.own i) (shows.copies i low high) is;
}
