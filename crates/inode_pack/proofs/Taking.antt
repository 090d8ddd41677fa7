-- The data pages and the tables that a new content takes, one by one.
use Rattle.std.proofs.Common.{◌≡◌, ◌≢◌, ℕ, zero, suc, ◌+◌, ◌<◌, ◌≤◌, Bool, true, false, ⊎_elim, List, [], ◌∷◌, ◌++◌, length, take, set, get_or, refl, sym, ap, subst, ◌∙◌, arith, length-set, length-append}
use Rattle.std.specs.Prelude.{Option, Some, is_some}
use Rattle.std.proofs.lemmas.Bool.{cases_lt, true≢false}
use Rattle.std.proofs.lemmas.List.{get_or-set_same, get_or-set_other, get_or_append_left, get_or-take}
use Rattle.std.proofs.Math.Seq.{get_or-append_seam, set-append_seam}
use Rattle.locus_ids.specs.Sizes.{page_bytes}
use Rattle.new_contents.specs.of_shadow_pages.Working.{Working, count_below, page_at as shadow_page}
use Rattle.inode_pack.specs.PagePieces.{AreWhole}
use Rattle.new_contents.specs.Changed.{is_changed}
use Rattle.inode_pack.specs.Committing.{Takes}
use Rattle.new_contents.proofs.Counting.{count_true, count_false, count_gap, count_passes}

-- the first n blocks have their numbers, the others those from before, and every unused one below `from` is taken
pub record TakesSoFar (most limit : ℕ) (unused : ℕ → Bool) (stood : ℕ → ℕ) (changed : ℕ → Bool) (n from : ℕ) (numbers : List ℕ) : Type 0 where
  pub long : length numbers ≡ most
  pub small : from ≤ limit
  pub count : count_below unused from ≡ count_below changed n
  pub stays : (i : ℕ) → i < n → changed i ≡ false → get_or numbers i 0 ≡ stood i
  pub below : (i : ℕ) → i < n → changed i ≡ true → get_or numbers i 0 < from
  pub free : (i : ℕ) → i < n → changed i ≡ true → unused (get_or numbers i 0) ≡ true
  pub ascend : (i j : ℕ) → i < j → j < n → changed i ≡ true → changed j ≡ true → get_or numbers i 0 < get_or numbers j 0
  pub taken : (page : ℕ) → page < from → unused page ≡ true → (j : ℕ) × (j < n) × (changed j ≡ true) × (get_or numbers j 0 ≡ page)
  pub later : (i : ℕ) → n ≤ i → i < most → get_or numbers i 0 ≡ stood i

-- pages that aren't changed are whole, as there is nothing of them
pub whole_skip : (w : Working) (n m : ℕ) → AreWhole w n → ((i : ℕ) → n ≤ i → i < m → is_changed w i ≡ false) → AreWhole w m
whole_skip w n m before none = λ i page lt is. ⊎_elim
    (λ (less : i < n). before i page less is)
    (λ (ge : n ≤ i). absurd (true≢false (sym (ap (λ (o : Option (List ℕ)). is_some o) is) ∙ none i ge lt)))
    (cases_lt i n)

pub whole_more : (w : Working) (n : ℕ) → AreWhole w n → ((page : List ℕ) → shadow_page w.pages n ≡ Some page → length page ≡ page_bytes) → AreWhole w (n + 1)
whole_more w n before here = λ i page lt is. ⊎_elim
    (λ (less : i < n). before i page less is)
    (λ (ge : n ≤ i). let e : i ≡ n = omega arith in here page (ap (λ (j : ℕ). shadow_page w.pages j) (sym e) ∙ is))
    (cases_lt i n)

module _ (most limit : ℕ) (unused : ℕ → Bool) (stood : ℕ → ℕ) (changed : ℕ → Bool) where
  -- where no data page below one is free, the search begins there
  pub takes_start : (numbers : List ℕ) (least : ℕ) → length numbers ≡ most → least ≤ limit → ((page : ℕ) → page < least → unused page ≡ false) → ((i : ℕ) → i < most → get_or numbers i 0 ≡ stood i) → TakesSoFar most limit unused stood changed 0 least numbers
  takes_start numbers least long small none before = record {
    long = long;
    small = small;
    count = count_gap unused 0 least (omega arith) (λ page low high. none page high);
    stays = λ i lt. absurd (omega arith);
    below = λ i lt. absurd (omega arith);
    free = λ i lt. absurd (omega arith);
    ascend = λ i j lt more. absurd (omega arith);
    taken = λ page lt is_free. absurd (true≢false (sym is_free ∙ none page lt));
    later = λ i le lt. before i lt;
  }

  module _ (n from : ℕ) (numbers : List ℕ) (so_far : TakesSoFar most limit unused stood changed n from numbers) (fits : n < most) where
    same : (x i : ℕ) → i ≢ n → get_or (set numbers n x) i 0 ≡ get_or numbers i 0
    same x i ne = get_or-set_other numbers n i x 0 ne

    own : (x : ℕ) → get_or (set numbers n x) n 0 ≡ x
    own x = get_or-set_same numbers n x 0 (omega (arith, so_far.long))

    last : (P : ℕ → Type 0) (i : ℕ) → i < n + 1 → (i < n → P i) → P n → P i
    last P i lt before here = ⊎_elim (λ (less : i < n). before less) (λ (ge : n ≤ i). let e : n ≡ i = omega arith in subst P e here) (cases_lt i n)

    pub takes_stays : changed n ≡ false → TakesSoFar most limit unused stood changed (n + 1) from numbers
    takes_stays not_changed = record {
      long = so_far.long;
      small = so_far.small;
      count = so_far.count ∙ sym (count_false changed n not_changed);
      stays = λ i lt. last (λ k. changed k ≡ false → get_or numbers k 0 ≡ stood k) i lt (λ less no. so_far.stays i less no) (λ no. so_far.later n (omega arith) fits);
      below = λ i lt. last (λ k. changed k ≡ true → get_or numbers k 0 < from) i lt (λ less yes. so_far.below i less yes) (λ yes. absurd (true≢false (sym yes ∙ not_changed)));
      free = λ i lt. last (λ k. changed k ≡ true → unused (get_or numbers k 0) ≡ true) i lt (λ less yes. so_far.free i less yes) (λ yes. absurd (true≢false (sym yes ∙ not_changed)));
      ascend = λ i j lt less. last (λ k. i < k → changed i ≡ true → changed k ≡ true → get_or numbers i 0 < get_or numbers k 0) j less
          (λ before apart a b. so_far.ascend i j apart before a b)
          (λ apart a b. absurd (true≢false (sym b ∙ not_changed))) lt;
      taken = λ page lt is_free. let t = so_far.taken page lt is_free in (t.0, omega (arith, t.1), t.2, t.3);
      later = λ i le lt. so_far.later i (omega arith) lt;
    }

    pub takes_one : (found : ℕ) → changed n ≡ true → from ≤ found → found < limit → unused found ≡ true → ((p : ℕ) → from ≤ p → p < found → unused p ≡ false) → TakesSoFar most limit unused stood changed (n + 1) (found + 1) (set numbers n found)
    takes_one found is low high is_free gap = record {
      long = length-set numbers n found ∙ so_far.long;
      small = omega arith;
      count = count_true unused found is_free ∙ ap (λ (k : ℕ). k + 1) (count_gap unused from found low gap ∙ so_far.count) ∙ sym (count_true changed n is);
      stays = λ i lt. last (λ k. changed k ≡ false → get_or (set numbers n found) k 0 ≡ stood k) i lt (λ less no. same found i (λ e. omega arith) ∙ so_far.stays i less no) (λ no. absurd (true≢false (sym is ∙ no)));
      below = λ i lt. last (λ k. changed k ≡ true → get_or (set numbers n found) k 0 < found + 1) i lt (λ less yes. let e = same found i (λ e. omega arith) in let h = so_far.below i less yes in omega arith) (λ yes. let e = own found in omega arith);
      free = λ i lt. last (λ k. changed k ≡ true → unused (get_or (set numbers n found) k 0) ≡ true) i lt (λ less yes. ap unused (same found i (λ e. omega arith)) ∙ so_far.free i less yes) (λ yes. ap unused (own found) ∙ is_free);
      ascend = λ i j lt less. last (λ k. i < k → changed i ≡ true → changed k ≡ true → get_or (set numbers n found) i 0 < get_or (set numbers n found) k 0) j less
          (λ before apart a b. let e = same found i (λ e. omega arith) in let f = same found j (λ e. omega arith) in let h = so_far.ascend i j apart before a b in omega arith)
          (λ apart a b. let e = same found i (λ e. omega arith) in let f = own found in let h = so_far.below i apart a in omega arith) lt;
      taken = λ page lt yes. ⊎_elim
          (λ (before : page < from). let t = so_far.taken page before yes in (t.0, omega (arith, t.1), t.2, same found t.0 (λ e. omega (arith, t.1)) ∙ t.3))
          (λ (behind : from ≤ page). ⊎_elim
          (λ (less : page < found). absurd (true≢false (sym yes ∙ gap page behind less)))
          (λ (ge : found ≤ page). (n, omega arith, is, own found ∙ (let e : found ≡ page = omega arith in e)))
          (cases_lt page found))
          (cases_lt page from);
      later = λ i le lt. same found i (λ e. omega arith) ∙ so_far.later i (omega arith) lt;
    }

  pub same_taking : (n k from from' x : ℕ) (numbers numbers' : List ℕ) → from' ≡ from → numbers' ≡ set numbers k x → k ≡ n → TakesSoFar most limit unused stood changed (n + 1) from (set numbers n x) → TakesSoFar most limit unused stood changed (n + 1) from' numbers'
  same_taking n k from from' x numbers numbers' e f at h =
      subst (λ (xs : List ℕ). TakesSoFar most limit unused stood changed (n + 1) from' xs) (sym (f ∙ ap (λ (j : ℕ). set numbers j x) at))
      (subst (λ (m : ℕ). TakesSoFar most limit unused stood changed (n + 1) m (set numbers n x)) (sym e) h)

  -- pages that aren't changed are passed over
  pub takes_skip : (n d m from : ℕ) (numbers : List ℕ) → n + d ≡ m → TakesSoFar most limit unused stood changed n from numbers → m ≤ most → ((i : ℕ) → n ≤ i → i < m → changed i ≡ false) → TakesSoFar most limit unused stood changed m from numbers
  takes_skip n zero m from numbers e so_far fits none = (let f : n ≡ m = omega arith in subst (λ (k : ℕ). TakesSoFar most limit unused stood changed k from numbers) f so_far)
  takes_skip n (suc d) m from numbers e so_far fits none =
      let before = takes_skip n d (n + d) from numbers refl so_far (omega arith) (λ i low high. none i low (omega arith)) in
      let f : n + d + 1 ≡ m = omega arith in
      subst (λ (k : ℕ). TakesSoFar most limit unused stood changed k from numbers) f (takes_stays (n + d) from numbers before (omega arith) (none (n + d) (omega arith) (omega arith)))

  pub same_so_far : (n from from' : ℕ) (numbers numbers' : List ℕ) → from' ≡ from → numbers' ≡ numbers → TakesSoFar most limit unused stood changed n from numbers → TakesSoFar most limit unused stood changed n from' numbers'
  same_so_far n from from' numbers numbers' e f h =
      subst (λ (xs : List ℕ). TakesSoFar most limit unused stood changed n from' xs) (sym f)
      (subst (λ (m : ℕ). TakesSoFar most limit unused stood changed n m numbers) (sym e) h)

  -- there is an unused page for each changed one
  pub room : (n from m total : ℕ) (numbers : List ℕ) → TakesSoFar most limit unused stood changed n from numbers → n < total → changed n ≡ true → count_below changed total ≤ count_below unused m → count_below unused from < count_below unused m
  room n from m total numbers so_far lt is fits = let more = count_passes changed n total lt is in let e = so_far.count in omega arith

  -- from the end of the content on no data page is named
  pub takes_done : (n from total : ℕ) (numbers ended : List ℕ) → n ≡ total → TakesSoFar most limit unused stood changed n from numbers
      → ((i : ℕ) → i < n → get_or ended i 0 ≡ get_or numbers i 0) → ((i : ℕ) → n ≤ i → i < most → get_or ended i 0 ≡ 65535) → Takes most limit total unused stood changed ended
  takes_done n from total numbers ended e so_far before rest = record {
    stays = λ i lt no. before i (omega arith) ∙ so_far.stays i (omega arith) no;
    inside = λ i lt yes. let h = so_far.below i (omega arith) yes in let s = so_far.small in let b = before i (omega arith) in omega arith;
    free = λ i lt yes. ap unused (before i (omega arith)) ∙ so_far.free i (omega arith) yes;
    ascend = λ i j lt less a b. let h = so_far.ascend i j lt (omega arith) a b in let f = before i (omega arith) in let g = before j (omega arith) in omega arith;
    least = λ i page lt yes less is_free.
        let h = so_far.below i (omega arith) yes in
        let b = before i (omega arith) in
        let t = so_far.taken page (omega arith) is_free in
        (t.0, earlier i t.0 (omega arith) t.1 yes t.2 (omega (arith, t.3, b, less)), t.2, before t.0 t.1 ∙ t.3);
    rest = λ i le lt. rest i (omega arith) lt;
  }
    where
      earlier : (i j : ℕ) → i < n → j < n → changed i ≡ true → changed j ≡ true → get_or numbers j 0 < get_or numbers i 0 → j < i
      earlier i j low high a b less = ⊎_elim
          (λ (before : j < i). before)
          (λ (ge : i ≤ j). ⊎_elim
          (λ (apart : i < j). let h = so_far.ascend i j apart high a b in absurd (omega arith))
          (λ (le : j ≤ i). let same : i ≡ j = omega arith in let f = ap (λ (k : ℕ). get_or numbers k 0) same in absurd (omega arith))
          (cases_lt i j))
          (cases_lt j i)

-- with another test that says the same of the blocks
pub takes_same : (most limit : ℕ) (unused : ℕ → Bool) (stood : ℕ → ℕ) (n : ℕ) (f g : ℕ → Bool) (numbers : List ℕ) → ((i : ℕ) → i < n → f i ≡ g i) → Takes most limit n unused stood f numbers → Takes most limit n unused stood g numbers
takes_same most limit unused stood n f g numbers same t = record {
  stays = λ i lt isnt. t.stays i lt (same i lt ∙ isnt);
  inside = λ i lt is. t.inside i lt (same i lt ∙ is);
  free = λ i lt is. t.free i lt (same i lt ∙ is);
  ascend = λ i j lt less a b. t.ascend i j lt less (same i (omega arith) ∙ a) (same j less ∙ b);
  least = λ i number lt is less free. let h = t.least i number lt (same i lt ∙ is) less free in (h.0, h.1, sym (same h.0 (omega (arith, h.1, lt))) ∙ h.2, h.3);
  rest = t.rest;
}

-- the numbers of the first blocks alone: one more is put behind them
module _ (limit : ℕ) (unused : ℕ → Bool) (stood : ℕ → ℕ) (changed : ℕ → Bool) (n from : ℕ) (xs : List ℕ) (so_far : TakesSoFar n limit unused stood changed n from xs) where
  wider : TakesSoFar (n + 1) limit unused stood changed n from (xs ++ stood n ∷ [])
  wider = record {
    long = omega (arith, so_far.long, length-append xs (stood n ∷ []));
    small = so_far.small;
    count = so_far.count;
    stays = λ i lt no. same i lt ∙ so_far.stays i lt no;
    below = λ i lt yes. omega (arith, same i lt, so_far.below i lt yes);
    free = λ i lt yes. ap unused (same i lt) ∙ so_far.free i lt yes;
    ascend = λ i j lt less a b. omega (arith, same i (omega arith), same j less, so_far.ascend i j lt less a b);
    taken = λ page lt yes. let t = so_far.taken page lt yes in (t.0, t.1, t.2, same t.0 t.1 ∙ t.3);
    later = λ i le lt. let e : i ≡ n = omega arith in ap (λ (k : ℕ). get_or (xs ++ stood n ∷ []) k 0) (e ∙ sym so_far.long) ∙ get_or-append_seam xs (stood n) [] 0 ∙ sym (ap stood e);
  }
    where
      same : (i : ℕ) → i < n → get_or (xs ++ stood n ∷ []) i 0 ≡ get_or xs i 0
      same i lt = get_or_append_left xs (stood n ∷ []) 0 i (omega (arith, so_far.long))

  pub more_stays : (x : ℕ) → x ≡ stood n → changed n ≡ false → TakesSoFar (n + 1) limit unused stood changed (n + 1) from (xs ++ x ∷ [])
  more_stays x is same_one = subst (λ (y : ℕ). TakesSoFar (n + 1) limit unused stood changed (n + 1) from (xs ++ y ∷ [])) (sym is) (takes_stays (n + 1) limit unused stood changed n from (xs ++ stood n ∷ []) wider (omega arith) same_one)

  pub more_taken : (found : ℕ) → changed n ≡ true → from ≤ found → found < limit → unused found ≡ true → ((p : ℕ) → from ≤ p → p < found → unused p ≡ false) → TakesSoFar (n + 1) limit unused stood changed (n + 1) (found + 1) (xs ++ found ∷ [])
  more_taken found is low high free gap =
      subst (λ (ys : List ℕ). TakesSoFar (n + 1) limit unused stood changed (n + 1) (found + 1) ys)
      (ap (λ (k : ℕ). set (xs ++ stood n ∷ []) k found) (sym so_far.long) ∙ set-append_seam xs (stood n) [] found)
      (takes_one (n + 1) limit unused stood changed n from (xs ++ stood n ∷ []) wider (omega arith) found is low high free gap)

-- from their end on no data page is named
pub takes_front : (most limit n from : ℕ) (unused : ℕ → Bool) (stood : ℕ → ℕ) (changed : ℕ → Bool) (numbers : List ℕ) → TakesSoFar n limit unused stood changed n from (take n numbers) → ((i : ℕ) → n ≤ i → i < most → get_or numbers i 0 ≡ 65535) → Takes most limit n unused stood changed numbers
takes_front most limit n from unused stood changed numbers so_far rest =
    let t = takes_done n limit unused stood changed n from n (take n numbers) numbers refl so_far (λ i lt. sym (get_or-take n numbers i 0 lt)) (λ i le lt. absurd (omega arith)) in
    record { stays = t.stays; inside = t.inside; free = t.free; ascend = t.ascend; least = t.least; rest = rest }
