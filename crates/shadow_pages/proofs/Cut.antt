-- What a cut leaves.
use Rattle.std.proofs.Common.{◌≡◌, ℕ, ◌+◌, ◌-◌, ◌*◌, ◌/◌, ◌%◌, ◌<◌, ◌≤◌, Bool, true, false, ◌&&◌, ltb, List, ◌++◌, length, get_or, take, replicate, Option, Some, None, refl, sym, ◌∙◌, arith, inl, inr}
use Rattle.std.specs.Option.{is_some}
use Rattle.std.proofs.lemmas.Bool.{cases_lt, cases_eq, lt-ltb, le-ltb}
use Rattle.std.proofs.lemmas.Grind.{same_number_lists}
use Rattle.std.proofs.lemmas.List.{length-take, get_or-take, get_or_past, get_or_append_left, get_or-append_right}
use Rattle.locus_ids.specs.Sizes.{page_bytes}
use Rattle.file_content.specs.Pages.{pages_of}
use Rattle.shadow_pages.specs.Working.{Working, byte_in, byte_at, content}
use Rattle.shadow_pages.proofs.Bytes.{content_at, length_content, zero_at}

pub content_cut : (base : List ℕ) (w : Working) (len : ℕ) (new : List (Option (List ℕ))) → len ≤ w.size
    → ((i k old : ℕ) → k < page_bytes → page_bytes * i + k < len → byte_in (get_or new i None) k old ≡ byte_in (get_or w.pages i None) k old)
    → content base (record { size = len; pages = new }) ≡ take len (content base w)
content_cut base w len new le bytes = same_number_lists (content base (record { size = len; pages = new })) (take len (content base w)) lengths each where
  lengths : length (content base (record { size = len; pages = new })) ≡ length (take len (content base w))
  lengths = omega (arith, length_content base (record { size = len; pages = new }), length-take len (content base w), length_content base w)

  each : (k : ℕ) → k < length (content base (record { size = len; pages = new })) → get_or (content base (record { size = len; pages = new })) k 0 ≡ get_or (take len (content base w)) k 0
  each k lt =
      let after : Working = record { size = len; pages = new } in
      let small : k < len = omega (arith, length_content base after) in
      let one : get_or (content base after) k 0 ≡ byte_at base after k = content_at base after k ∙ rw (lt-ltb k len small) refl in
      let two : byte_at base after k ≡ byte_at base w k = bytes (k / page_bytes) (k % page_bytes) (get_or base k 0) (omega arith) (omega arith) in
      let three : get_or (take len (content base w)) k 0 ≡ byte_at base w k = get_or-take len (content base w) k 0 small ∙ content_at base w k ∙ rw (lt-ltb k w.size (omega arith)) refl in
      one ∙ two ∙ sym three

pub content_uncut : (base : List ℕ) (w : Working) (len : ℕ) → w.size ≤ len → content base w ≡ take len (content base w)
content_uncut base w len le = same_number_lists (content base w) (take len (content base w)) (omega (arith, length-take len (content base w), length_content base w)) (λ k lt. sym (get_or-take len (content base w) k 0 (omega (arith, length_content base w))))

front_at : (from k n : ℕ) (page : List ℕ) → k < from → get_or (take from page ++ replicate {A = ℕ} n 0) k 0 ≡ get_or page k 0
front_at from k n page lt = elim (cases_lt k (length (take from page))) [
  | inl inside ↦ get_or_append_left (take from page) (replicate {A = ℕ} n 0) 0 k inside ∙ get_or-take from page k 0 lt
  | inr past ↦
      get_or-append_right (take from page) (replicate {A = ℕ} n 0) (length (take from page)) k 0 refl past ∙ zero_at n (k - length (take from page))
      ∙ sym (get_or_past page k 0 (omega (arith, length-take from page)))
]

back_at : (from k n : ℕ) (page : List ℕ) → from ≤ k → get_or (take from page ++ replicate {A = ℕ} n 0) k 0 ≡ 0
back_at from k n page le = get_or-append_right (take from page) (replicate {A = ℕ} n 0) (length (take from page)) k 0 refl (omega (arith, length-take from page)) ∙ zero_at n (k - length (take from page))

module _ (old mid new : List (Option (List ℕ))) (len : ℕ)
    (kept : mid ≡ take (pages_of len) old)
    (others : (j : ℕ) → (j ≡ len / page_bytes → ⊥) → get_or new j None ≡ get_or mid j None)
    (none : get_or mid (len / page_bytes) None ≡ None → get_or new (len / page_bytes) None ≡ None)
    (cleared : (page : List ℕ) → get_or mid (len / page_bytes) None ≡ Some page → get_or new (len / page_bytes) None ≡ Some (take (len % page_bytes) page ++ replicate {A = ℕ} (page_bytes - len % page_bytes) 0)) where
  in_mid : (i : ℕ) → i < pages_of len → get_or mid i None ≡ get_or old i None
  in_mid i lt = rw kept (get_or-take (pages_of len) old i None lt)

  past_mid : (i : ℕ) → pages_of len ≤ i → get_or mid i None ≡ None
  past_mid i le = rw kept (get_or_past (take (pages_of len) old) i None (omega (arith, length-take (pages_of len) old)))

  same_some : (i : ℕ) → is_some (get_or new i None) ≡ is_some (get_or mid i None)
  same_some i = elim (cases_eq i (len / page_bytes)) [
    | inl at ↦ rw at (by_case (get_or mid (len / page_bytes) None) refl)
    | inr off ↦ rw (others i off) refl
  ] where
    by_case : (p : Option (List ℕ)) → get_or mid (len / page_bytes) None ≡ p → is_some (get_or new (len / page_bytes) None) ≡ is_some (get_or mid (len / page_bytes) None)
    by_case None e = rw (none e, e) refl
    by_case (Some page) e = rw (cleared page e, e) refl

  pub changed_cut : (i : ℕ) → is_some (get_or new i None) ≡ (is_some (get_or old i None) && ltb (page_bytes * i) len)
  changed_cut i = same_some i ∙ elim (cases_lt (page_bytes * i) len) [
    | inl lt ↦ rw (lt-ltb (page_bytes * i) len lt, in_mid i (omega arith)) (sym (and_true (is_some (get_or old i None))))
    | inr le ↦ rw (le-ltb (page_bytes * i) len le, past_mid i (omega arith)) (sym (and_false (is_some (get_or old i None))))
  ] where
    and_true : (b : Bool) → (b && true) ≡ b
    and_true true = refl
    and_true false = refl

    and_false : (b : Bool) → (b && false) ≡ false
    and_false true = refl
    and_false false = refl

  pub bytes_cut : (i k rest : ℕ) → k < page_bytes → page_bytes * i + k < len → byte_in (get_or new i None) k rest ≡ byte_in (get_or old i None) k rest
  bytes_cut i k rest small inside = rw (← in_mid i (omega arith)) (elim (cases_eq i (len / page_bytes)) [
    | inl at ↦ rw at (by_case (get_or mid (len / page_bytes) None) refl (omega arith))
    | inr off ↦ rw (others i off) refl
  ]) where
    by_case : (p : Option (List ℕ)) → get_or mid (len / page_bytes) None ≡ p → k < len % page_bytes → byte_in (get_or new (len / page_bytes) None) k rest ≡ byte_in (get_or mid (len / page_bytes) None) k rest
    by_case None e lt = rw (none e, e) refl
    by_case (Some page) e lt = rw (cleared page e, e) (front_at (len % page_bytes) k (page_bytes - len % page_bytes) page lt)

  pub zeros_cut : (i k : ℕ) → k < page_bytes → len ≤ page_bytes * i + k → byte_in (get_or new i None) k 0 ≡ 0
  zeros_cut i k small past = elim (cases_eq i (len / page_bytes)) [
    | inl at ↦ rw at (by_case (get_or mid (len / page_bytes) None) refl (omega arith))
    | inr off ↦ rw (others i off, past_mid i (omega arith)) refl
  ] where
    by_case : (p : Option (List ℕ)) → get_or mid (len / page_bytes) None ≡ p → len % page_bytes ≤ k → byte_in (get_or new (len / page_bytes) None) k 0 ≡ 0
    by_case None e le = rw (none e) refl
    by_case (Some page) e le = rw (cleared page e) (back_at (len % page_bytes) k (page_bytes - len % page_bytes) page le)
