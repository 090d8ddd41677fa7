-- The threads through the packets are kept by each call.
use Rattle.std.proofs.Common.{◌≡◌, ◌≢◌, ℕ, zero, suc, ◌+◌, ◌<◌, ◌≤◌, List, [], ◌∷◌, ◌++◌, length, set, get_or, take, Some, None, Bool, true, false, cond, nat_eq, nat_lt, refl, sym, ap, ◌∙◌, subst, arith}
use Rattle.std.proofs.lemmas.Bool.Decides.{nat_tests}
use Rattle.std.proofs.lemmas.List.{get_or-set_same, get_or-set_other, get_or-take, length-set, length-take, take_more, append-nil}
use Rattle.packet_queue.specs.Queues.{numbers_of, Threaded, Head, Lowest, linked, begun}
use Rattle.role_steps.specs.Tables.{first_that}

pub split : {P : Type 0} (a b : ℕ) → (a ≡ b → P) → (a ≢ b → P) → P
split {P = P} a b f g = elim (nat_eq a b) as (λ t. nat_eq a b ≡ t → P) [ true ↦ λ e. f (grind (arith, nat_tests)) | false ↦ λ e. g (grind (arith, nat_tests)) ] refl

pub either : {P : Type 0} (b : Bool) → (b ≡ true → P) → (b ≡ false → P) → P
either true f g = f refl
either false f g = g refl

split_le : {P : Type 0} (a b : ℕ) → (a ≤ b → P) → (b < a → P) → P
split_le {P = P} a b f g = elim (nat_lt b a) as (λ t. nat_lt b a ≡ t → P) [ true ↦ λ e. g (grind (arith, nat_tests)) | false ↦ λ e. f (grind (arith, nat_tests)) ] refl

put : {A : Type 0} (xs : List A) (i j : ℕ) (v d : A) → i < length xs → j ≡ i → get_or (set xs i v) j d ≡ v
put xs i j v d l e = ap (λ y. get_or (set xs i v) y d) e ∙ get_or-set_same xs i v d l

kept : {A : Type 0} (xs : List A) (i j : ℕ) (v d : A) → j ≢ i → get_or (set xs i v) j d ≡ get_or xs j d
kept xs i j v d n = get_or-set_other xs i j v d n

-- ---- the least number is what the plain function gives ----

move : (n k : ℕ) → (n + 1) + k ≡ n + suc k
move n k = omega arith

-- none of the first i that are under way passes the test
abbrev NoneBelow : (ℕ → Bool) → ℕ → List Bool → ℕ → Type 0
NoneBelow test n ws i = (k : ℕ) → k < i → get_or ws k false ≡ true → test (n + k) ≡ true → ⊥

later : (test : ℕ → Bool) (n : ℕ) (b : Bool) (ws : List Bool) (i : ℕ) → NoneBelow test n (b ∷ ws) (suc i) → NoneBelow test (n + 1) ws i
later test n b ws i g k m q r = g (suc k) (omega arith) q (ap test (sym (move n k)) ∙ r)

pub some_first : (test : ℕ → Bool) (n : ℕ) (ws : List Bool) (i : ℕ) → i < length ws → get_or ws i false ≡ true → test (n + i) ≡ true → NoneBelow test n ws i → first_that test (numbers_of n ws) ≡ Some (n + i)
some_first test n [] i l w t h = absurd (omega arith)
some_first test n (true ∷ ws) zero l w t h = let e : n + 0 ≡ n = omega arith in rw (sym (ap test e) ∙ t) (ap (λ y. Some y) (sym e))
some_first test n (false ∷ ws) zero l w t h = cc
some_first test n (true ∷ ws) (suc i) l w t h = either (test n)
    (λ f. absurd (h 0 (omega arith) refl (let e : n + 0 ≡ n = omega arith in ap test e ∙ f)))
    (λ f. rw f (some_first test (n + 1) ws i (omega arith) w (ap test (move n i) ∙ t) (later test n true ws i h) ∙ ap (λ y. Some y) (move n i)))
some_first test n (false ∷ ws) (suc i) l w t h = some_first test (n + 1) ws i (omega arith) w (ap test (move n i) ∙ t) (later test n false ws i h) ∙ ap (λ y. Some y) (move n i)

pub none_first : (test : ℕ → Bool) (n : ℕ) (ws : List Bool) → NoneBelow test n ws (length ws) → first_that test (numbers_of n ws) ≡ None
none_first test n [] h = refl
none_first test n (true ∷ ws) h = either (test n)
    (λ f. absurd (h 0 (omega arith) refl (let e : n + 0 ≡ n = omega arith in ap test e ∙ f)))
    (λ f. rw f (none_first test (n + 1) ws (later test n true ws (length ws) h)))
none_first test n (false ∷ ws) h = none_first test (n + 1) ws (later test n false ws (length ws) h)

-- ---- a packet is no longer under way ----

pub take_keeps : (n k h : ℕ) (cs : List ℕ) (ws : List Bool) (after first last : List ℕ) → k < n → Threaded n cs ws after first last → Head n cs (set ws k false) (get_or cs k 0) h → Threaded n cs (set ws k false) after (set first (get_or cs k 0) h) last
take_keeps n k h cs ws after first last l t new = record {
  count = t.count;
  circuits_room = t.circuits_room;
  underway_room = length-set ws k false ∙ t.underway_room;
  after_room = t.after_room;
  first_room = length-set first (get_or cs k 0) h ∙ t.first_room;
  last_room = t.last_room;
  circuits = t.circuits;
  chained = t.chained;
  heads = λ j b. split j (get_or cs k 0) (same j) (other j b);
  tails = t.tails;
  ends = t.ends;
} where
  same : (j : ℕ) → j ≡ get_or cs k 0 → Head n cs (set ws k false) j (get_or (set first (get_or cs k 0) h) j 0)
  same j e = subst (λ y. Head n cs (set ws k false) y (get_or (set first (get_or cs k 0) h) y 0)) (sym e) (subst (λ y. Head n cs (set ws k false) (get_or cs k 0) y) (sym (put first (get_or cs k 0) (get_or cs k 0) h 0 (let b : get_or cs k 0 < 256 = t.circuits k l in let r : length first ≡ 256 = t.first_room in omega arith) refl)) new)

  was : (m : ℕ) → get_or (set ws k false) m false ≡ true → get_or ws m false ≡ true
  was m e = split m k (λ same. let f : get_or (set ws k false) m false ≡ false = put ws k m false false (let r : length ws ≡ 262145 = t.underway_room in let b : n ≤ 262145 = t.count in omega arith) same in cc) (λ apart. sym (kept ws k m false false apart) ∙ e)

  other : (j : ℕ) → j < 256 → j ≢ get_or cs k 0 → Head n cs (set ws k false) j (get_or (set first (get_or cs k 0) h) j 0)
  other j b apart = subst (λ y. Head n cs (set ws k false) j y) (sym (kept first (get_or cs k 0) j h 0 apart)) (record {
    below = λ m s w e. (t.heads j b).below m s (was m w) e;
    there = λ s. let o = (t.heads j b).there s in (o.0, o.1, kept ws k (get_or first j 0) false false (λ e. apart (sym o.1 ∙ ap (λ y. get_or cs y 0) e)) ∙ o.2);
  })

-- ---- a packet is sent ----

link_put : (after : List ℕ) (l n k : ℕ) → l < n → l < length after → k ≡ l → get_or (linked after l n) k 0 ≡ n
link_put after l n k s r e = elim (nat_lt l n) as (λ b. nat_lt l n ≡ b → get_or (cond b (set after l n) after) k 0 ≡ n) [ true ↦ λ t. put after l k n 0 r e | false ↦ λ t. absurd (grind (arith, nat_tests)) ] refl

link_kept : (after : List ℕ) (l n k : ℕ) → (l < n → k ≢ l) → get_or (linked after l n) k 0 ≡ get_or after k 0
link_kept after l n k h = elim (nat_lt l n) as (λ b. nat_lt l n ≡ b → get_or (cond b (set after l n) after) k 0 ≡ get_or after k 0) [ true ↦ λ t. kept after l k n 0 (h (grind (arith, nat_tests))) | false ↦ λ t. refl ] refl

link_length : (after : List ℕ) (l n : ℕ) → length (linked after l n) ≡ length after
link_length after l n = elim (nat_lt l n) as (λ b. length (cond b (set after l n) after) ≡ length after) [ true ↦ length-set after l n | false ↦ refl ]

begin_length : (first : List ℕ) (c n : ℕ) → length (begun first c n) ≡ length first
begin_length first c n = elim (nat_lt n (get_or first c 0)) as (λ b. length (cond b (set first c n) first) ≡ length first) [ true ↦ length-set first c n | false ↦ refl ]

begin_kept : (first : List ℕ) (c n j : ℕ) → j ≢ c → get_or (begun first c n) j 0 ≡ get_or first j 0
begin_kept first c n j e = elim (nat_lt n (get_or first c 0)) as (λ b. get_or (cond b (set first c n) first) j 0 ≡ get_or first j 0) [ true ↦ kept first c j n 0 e | false ↦ refl ]

begin_put : (first : List ℕ) (c n : ℕ) → c < length first → (n < get_or first c 0 → get_or (begun first c n) c 0 ≡ n) × (get_or first c 0 ≤ n → get_or (begun first c n) c 0 ≡ get_or first c 0)
begin_put first c n r = elim (nat_lt n (get_or first c 0)) as (λ b. nat_lt n (get_or first c 0) ≡ b → (n < get_or first c 0 → get_or (cond b (set first c n) first) c 0 ≡ n) × (get_or first c 0 ≤ n → get_or (cond b (set first c n) first) c 0 ≡ get_or first c 0)) [
  | true ↦ λ t. (λ _. put first c c n 0 r refl, λ h. absurd (grind (arith, nat_tests)))
  | false ↦ λ t. (λ h. absurd (grind (arith, nat_tests)), λ _. refl)
] refl

pub add_keeps : (n c : ℕ) (cs : List ℕ) (ws : List Bool) (after first last : List ℕ) → n < 262145 → c < 256 → Threaded n cs ws after first last → Threaded (n + 1) (set cs n c) (set ws n true) (linked (set after n 4294967295) (get_or last c 0) n) (begun first c n) (set last c n)
add_keeps n c cs ws after first last small byte t = record {
  count = omega arith;
  circuits_room = length-set cs n c ∙ t.circuits_room;
  underway_room = length-set ws n true ∙ t.underway_room;
  after_room = link_length (set after n 4294967295) (get_or last c 0) n ∙ (length-set after n 4294967295 ∙ t.after_room);
  first_room = begin_length first c n ∙ t.first_room;
  last_room = length-set last c n ∙ t.last_room;
  circuits = λ k b. split k n (λ e. let f = cs_new k e in omega arith) (λ e. let f = cs_old k e in let g = t.circuits k (omega arith) in omega arith);
  chained = record { least = λ k m. least k m; onward = λ k. onward k };
  heads = λ j b. split j c (same j) (other j b);
  tails = λ m. tails m;
  ends = λ j. ends j;
} where
  in_cs : n < length cs
  in_cs = let r : length cs ≡ 262145 = t.circuits_room in omega arith

  in_after : n < length after
  in_after = let r : length after ≡ 262145 = t.after_room in omega arith

  in_last : c < length last
  in_last = let r : length last ≡ 256 = t.last_room in omega arith

  in_first : c < length first
  in_first = let r : length first ≡ 256 = t.first_room in omega arith

  cs_new : (m : ℕ) → m ≡ n → get_or (set cs n c) m 0 ≡ c
  cs_new m e = put cs n m c 0 in_cs e

  cs_old : (m : ℕ) → m ≢ n → get_or (set cs n c) m 0 ≡ get_or cs m 0
  cs_old m e = kept cs n m c 0 e

  ws_new : (m : ℕ) → m ≡ n → get_or (set ws n true) m false ≡ true
  ws_new m e = put ws n m true false (let r : length ws ≡ 262145 = t.underway_room in omega arith) e

  ws_old : (m : ℕ) → m ≢ n → get_or (set ws n true) m false ≡ get_or ws m false
  ws_old m e = kept ws n m true false e

  new_last : (m : ℕ) → m ≡ c → get_or (set last c n) m 0 ≡ n
  new_last m e = put last c m n 0 in_last e

  old_last : (m : ℕ) → m ≢ c → get_or (set last c n) m 0 ≡ get_or last m 0
  old_last m e = kept last c m n 0 e

  after_new : (k : ℕ) → k ≡ n → get_or (linked (set after n 4294967295) (get_or last c 0) n) k 0 ≡ 4294967295
  after_new k e = link_kept (set after n 4294967295) (get_or last c 0) n k (λ s f. absurd (omega arith)) ∙ put after n k 4294967295 0 in_after e

  after_tail : (k : ℕ) → get_or last c 0 < n → k ≡ get_or last c 0 → get_or (linked (set after n 4294967295) (get_or last c 0) n) k 0 ≡ n
  after_tail k s e = link_put (set after n 4294967295) (get_or last c 0) n k s (let r : length (set after n 4294967295) ≡ length after = length-set after n 4294967295 in omega arith) e

  after_old : (k : ℕ) → k ≢ n → k ≢ get_or last c 0 → get_or (linked (set after n 4294967295) (get_or last c 0) n) k 0 ≡ get_or after k 0
  after_old k e f = link_kept (set after n 4294967295) (get_or last c 0) n k (λ _. f) ∙ kept after n k 4294967295 0 e

  of_tail : (k : ℕ) → get_or last c 0 < n → k ≡ get_or last c 0 → get_or cs k 0 ≡ c
  of_tail k s e = ap (λ y. get_or cs y 0) e ∙ (t.ends c byte (omega arith)).1

  least_old : (k m : ℕ) → k < m → m < n → m ≢ n → get_or cs k 0 ≡ get_or cs m 0 → get_or (linked (set after n 4294967295) (get_or last c 0) n) k 0 ≤ m
  least_old k m s b u e = split k (get_or last c 0)
      (λ f. let g : get_or cs k 0 ≡ c = of_tail k (omega arith) f in
      let h : get_or cs m 0 ≡ c = sym e ∙ g in
      let i = (t.tails m b).0 in
      let j : get_or last (get_or cs m 0) 0 ≡ get_or last c 0 = ap (λ y. get_or last y 0) h in
      absurd (omega arith))
      (λ f. let g = after_old k (λ q. absurd (omega arith)) f in let h = t.chained.least k m s b e in omega arith)

  least_new : (k m : ℕ) → k < m → m ≡ n → get_or cs k 0 ≡ c → get_or (linked (set after n 4294967295) (get_or last c 0) n) k 0 ≤ m
  least_new k m s u e =
      let x : k < n = omega arith in
      let i = t.tails k x in
      let j : get_or last (get_or cs k 0) 0 ≡ get_or last c 0 = ap (λ y. get_or last y 0) e in
      split k (get_or last c 0)
      (λ f. let g = after_tail k (omega arith) f in omega arith)
      (λ f. let g = after_old k (λ q. absurd (omega arith)) f in
      let z = t.ends c byte (omega arith) in
      let h = t.chained.least k (get_or last c 0) (omega arith) (omega arith) (e ∙ sym z.1) in omega arith)

  least : (k m : ℕ) → k < m → m < n + 1 → get_or (set cs n c) k 0 ≡ get_or (set cs n c) m 0 → get_or (linked (set after n 4294967295) (get_or last c 0) n) k 0 ≤ m
  least k m s b e = split m n
      (λ f. least_new k m s f (sym (cs_old k (λ q. absurd (omega arith))) ∙ (e ∙ cs_new m f)))
      (λ f. least_old k m s (omega arith) f (sym (cs_old k (λ q. absurd (omega arith))) ∙ (e ∙ cs_old m f)))

  onward : (k : ℕ) → k < n + 1 → get_or (linked (set after n 4294967295) (get_or last c 0) n) k 0 < 4294967295 → (k < get_or (linked (set after n 4294967295) (get_or last c 0) n) k 0) × (get_or (linked (set after n 4294967295) (get_or last c 0) n) k 0 < n + 1) × (get_or (set cs n c) (get_or (linked (set after n 4294967295) (get_or last c 0) n) k 0) 0 ≡ get_or (set cs n c) k 0)
  onward k b s = split k n
      (λ e. let g = after_new k e in absurd (omega arith))
      (λ e. split k (get_or last c 0)
      (λ f. let g = after_tail k (omega arith) f in
      (omega arith, omega arith, cs_new _ g ∙ sym (cs_old k e ∙ of_tail k (omega arith) f)))
      (λ f. let g = after_old k e f in
      let o = t.chained.onward k (omega arith) (omega arith) in
      (omega arith, omega arith, cs_old _ (λ q. absurd (omega arith)) ∙ (ap (λ y. get_or cs y 0) g ∙ (o.2 ∙ sym (cs_old k e))))))

  same : (j : ℕ) → j ≡ c → Head (n + 1) (set cs n c) (set ws n true) j (get_or (begun first c n) j 0)
  same j e = subst (λ y. Head (n + 1) (set cs n c) (set ws n true) y (get_or (begun first c n) y 0)) (sym e) (record {
    below = λ m b w f. split m n
        (λ q. split_le (get_or first c 0) n (λ l. let g = (begin_put first c n in_first).1 l in omega arith) (λ l. let g = (begin_put first c n in_first).0 l in omega arith))
        (λ q. let h = (t.heads c byte).below m (omega arith) (sym (ws_old m q) ∙ w) (sym (cs_old m q) ∙ f) in
        let g = (begin_put first c n in_first).1 (omega arith) in omega arith);
    there = λ s. split_le (get_or first c 0) n
        (λ l. let g = (begin_put first c n in_first).1 l in
        let o = (t.heads c byte).there (omega arith) in
        let u : get_or (begun first c n) c 0 ≢ n = λ q. absurd (omega arith) in
        (omega arith, cs_old _ u ∙ (ap (λ y. get_or cs y 0) g ∙ o.1), ws_old _ u ∙ (ap (λ y. get_or ws y false) g ∙ o.2)))
        (λ l. let g = (begin_put first c n in_first).0 l in (omega arith, cs_new _ g, ws_new _ g));
  })

  other : (j : ℕ) → j < 256 → j ≢ c → Head (n + 1) (set cs n c) (set ws n true) j (get_or (begun first c n) j 0)
  other j b e = subst (λ y. Head (n + 1) (set cs n c) (set ws n true) j y) (sym (begin_kept first c n j e)) (record {
    below = λ m s w f. split m n
        (λ q. absurd (e (sym f ∙ cs_new m q)))
        (λ q. (t.heads j b).below m (omega arith) (sym (ws_old m q) ∙ w) (sym (cs_old m q) ∙ f));
    there = λ s. let o = (t.heads j b).there s in
        let u : get_or first j 0 ≢ n = λ q. absurd (omega arith) in
        (omega arith, cs_old _ u ∙ o.1, ws_old _ u ∙ o.2);
  })

  tails : (m : ℕ) → m < n + 1 → (m ≤ get_or (set last c n) (get_or (set cs n c) m 0) 0) × (get_or (set last c n) (get_or (set cs n c) m 0) 0 < n + 1)
  tails m b = split (get_or (set cs n c) m 0) c
      (λ e. let g = new_last _ e in (omega arith, omega arith))
      (λ e. let g = old_last _ e in
      let q : m ≢ n = λ q. e (cs_new m q) in
      let f : get_or last (get_or (set cs n c) m 0) 0 ≡ get_or last (get_or cs m 0) 0 = ap (λ y. get_or last y 0) (cs_old m q) in
      let o = t.tails m (omega arith) in
      (omega arith, omega arith))

  ends : (j : ℕ) → j < 256 → get_or (set last c n) j 0 < 4294967295 → (get_or (set last c n) j 0 < n + 1) × (get_or (set cs n c) (get_or (set last c n) j 0) 0 ≡ j)
  ends j b s = split j c
      (λ e. let g = new_last j e in (omega arith, cs_new _ g ∙ sym e))
      (λ e. let g = old_last j e in
      let o = t.ends j b (omega arith) in
      (omega arith, cs_old _ (λ q. absurd (omega arith)) ∙ (ap (λ y. get_or cs y 0) g ∙ o.1)))

-- ---- the least number under way whose circuit is up ----

pub head_along : (n : ℕ) (cs cs' : List ℕ) (ws ws' : List Bool) (c c' h : ℕ) → cs' ≡ cs → ws' ≡ ws → c' ≡ c → Head n cs' ws' c' h → Head n cs ws c h
head_along n cs cs' ws ws' c c' h e f g x = subst (λ y. Head n cs ws y h) g (subst (λ y. Head n cs y c' h) f (subst (λ y. Head n y ws' c' h) e x))

pub in_take : {A : Type 0} (n k : ℕ) (xs : List A) → k < length (take n xs) → k < n
in_take n k xs h = omega (arith, length-take n xs)

of_take : {A : Type 0} (n k : ℕ) (xs : List A) → n ≤ length xs → k < n → k < length (take n xs)
of_take n k xs l h = omega (arith, length-take n xs)

-- nothing below the least head is under way on a circuit that is up
none_below : (n best : ℕ) (cs : List ℕ) (ws : List Bool) (after first last : List ℕ) (up : List Bool) → Threaded n cs ws after first last → length up ≡ 256 → ((j : ℕ) → j < length up → get_or up j false ≡ true → best ≤ get_or first j 0) → (k : ℕ) → k < best → k < n → get_or (take n ws) k false ≡ true → get_or up (get_or (take n cs) (0 + k) 0) false ≡ true → ⊥
none_below n best cs ws after first last up t u below k s b w e =
    let z : 0 + k ≡ k = omega arith in
    let c : get_or (take n cs) (0 + k) 0 ≡ get_or cs k 0 = ap (λ y. get_or (take n cs) y 0) z ∙ get_or-take n cs k 0 b in
    let byte = t.circuits k b in
    let h = (t.heads (get_or cs k 0) byte).below k b (sym (get_or-take n ws k false b) ∙ w) refl in
    let g = below (get_or cs k 0) (omega arith) (ap (λ y. get_or up y false) (sym c) ∙ e) in
    absurd (omega arith)

pub next_some : (n best : ℕ) (cs : List ℕ) (ws : List Bool) (after first last : List ℕ) (up : List Bool) → Threaded n cs ws after first last → length up ≡ 256 → ((j : ℕ) → j < length up → get_or up j false ≡ true → best ≤ get_or first j 0) → ((j : ℕ) × (j < length up) × (get_or up j false ≡ true) × (get_or first j 0 ≡ best)) → best < 4294967295 → first_that (λ k. get_or up (get_or (take n cs) k 0) false) (numbers_of 0 (take n ws)) ≡ Some best
next_some n best cs ws after first last up t u below (j, l, b, e) s =
    let h : Head n cs ws j best = subst (λ y. Head n cs ws j y) e (t.heads j (omega arith)) in
    let o = h.there s in
    let z : 0 + best ≡ best = omega arith in
    let r : length ws ≡ 262145 = t.underway_room in
    let m : n ≤ 262145 = t.count in
    some_first (λ k. get_or up (get_or (take n cs) k 0) false) 0 (take n ws) best (of_take n best ws (omega arith) o.0) (get_or-take n ws best false o.0 ∙ o.2)
    (ap (λ y. get_or up y false) (ap (λ y. get_or (take n cs) y 0) z ∙ (get_or-take n cs best 0 o.0 ∙ o.1)) ∙ b)
    (λ k q. none_below n best cs ws after first last up t u below k q (omega arith))
    ∙ ap (λ y. Some y) z

pub next_none : (n best : ℕ) (cs : List ℕ) (ws : List Bool) (after first last : List ℕ) (up : List Bool) → Threaded n cs ws after first last → length up ≡ 256 → ((j : ℕ) → j < length up → get_or up j false ≡ true → best ≤ get_or first j 0) → best ≡ 4294967295 → first_that (λ k. get_or up (get_or (take n cs) k 0) false) (numbers_of 0 (take n ws)) ≡ None
next_none n best cs ws after first last up t u below s =
    let m : n ≤ 262145 = t.count in
    none_first (λ k. get_or up (get_or (take n cs) k 0) false) 0 (take n ws)
    (λ k q. let b : k < n = in_take n k ws q in none_below n best cs ws after first last up t u below k (omega arith) b)

pub take_small : {A : Type 0} (n : ℕ) (xs : List A) → length xs ≡ 262145 → length (take n xs) < 262145 → n < 262145
take_small n xs e h = omega (arith, length-take n xs)

-- ---- the least of all ----

pub lowest_add : (n h : ℕ) (ws : List Bool) → n < length ws → Lowest n ws h → Lowest (n + 1) (set ws n true) h
lowest_add n h ws l t = let o : h ≤ n = t.in_order in record {
  in_order = omega arith;
  below = λ m b w. split m n (λ e. omega arith) (λ e. t.below m (omega arith) (sym (kept ws n m true false e) ∙ w));
  there = λ b. split h n (λ e. put ws n h true false l e) (λ e. kept ws n h true false e ∙ t.there (omega arith));
}

-- the least of all is next, if its circuit is up
pub least_next : (n h : ℕ) (cs : List ℕ) (ws : List Bool) (up : List Bool) → n ≤ length ws → Lowest n ws h → h < n → get_or up (get_or cs h 0) false ≡ true → first_that (λ k. get_or up (get_or (take n cs) k 0) false) (numbers_of 0 (take n ws)) ≡ Some h
least_next n h cs ws up r t l e =
    let z : 0 + h ≡ h = omega arith in
    some_first (λ k. get_or up (get_or (take n cs) k 0) false) 0 (take n ws) h (of_take n h ws r l) (get_or-take n ws h false l ∙ t.there l)
    (ap (λ y. get_or up y false) (ap (λ y. get_or (take n cs) y 0) z ∙ get_or-take n cs h 0 l) ∙ e)
    (λ k b w f. let g = t.below k (omega arith) (sym (get_or-take n ws k false (omega arith)) ∙ w) in absurd (omega arith))
    ∙ ap (λ y. Some y) z

-- where the least of all is past the last, none is under way
pub none_left : (n h : ℕ) (cs : List ℕ) (ws : List Bool) (up : List Bool) → Lowest n ws h → n ≤ h → first_that (λ k. get_or up (get_or (take n cs) k 0) false) (numbers_of 0 (take n ws)) ≡ None
none_left n h cs ws up t l =
    none_first (λ k. get_or up (get_or (take n cs) k 0) false) 0 (take n ws)
    (λ k q w f. let b : k < n = in_take n k ws q in let g = t.below k b (sym (get_or-take n ws k false b) ∙ w) in absurd (omega arith))

-- ---- the numbers of the first places ----

pub numbers_more : (n : ℕ) (ws : List Bool) (w : Bool) → numbers_of n (ws ++ w ∷ []) ≡ numbers_of n ws ++ cond w ((n + length ws) ∷ []) []
numbers_more n [] w = elim w as (λ b. numbers_of n (b ∷ []) ≡ cond b ((n + 0) ∷ []) []) [ true ↦ ap (λ y. y ∷ []) (omega arith) | false ↦ refl ]
numbers_more n (true ∷ ws) w = ap (λ ys. n ∷ ys) (numbers_more (n + 1) ws w ∙ ap (λ y. numbers_of (n + 1) ws ++ cond w (y ∷ []) []) (omega arith))
numbers_more n (false ∷ ws) w = numbers_more (n + 1) ws w ∙ ap (λ y. numbers_of (n + 1) ws ++ cond w (y ∷ []) []) (omega arith)

pub take_next : (k : ℕ) (ws : List Bool) (d w : Bool) → k < length ws → w ≡ get_or ws k d → numbers_of 0 (take (k + 1) ws) ≡ numbers_of 0 (take k ws) ++ cond w (k ∷ []) []
take_next k ws d w l e = ap (numbers_of 0) (take_more ws k d l) ∙ (numbers_more 0 (take k ws) (get_or ws k d) ∙ ap (λ y. numbers_of 0 (take k ws) ++ y) (ap (λ y. cond y ((0 + length (take k ws)) ∷ []) []) (sym e) ∙ ap (λ y. cond w (y ∷ []) []) (omega (arith, length-take k ws))))

pub pending_yes : (k : ℕ) (ws : List Bool) (r : Bool) → k < length ws → r ≡ get_or ws k r → r ≡ true → numbers_of 0 (take (k + 1) ws) ≡ numbers_of 0 (take k ws) ++ k ∷ []
pending_yes k ws r l e t = take_next k ws r r l e ∙ ap (λ y. numbers_of 0 (take k ws) ++ cond y (k ∷ []) []) t

pub pending_no : (k : ℕ) (ws : List Bool) (r : Bool) → k < length ws → r ≡ get_or ws k r → r ≡ false → numbers_of 0 (take (k + 1) ws) ≡ numbers_of 0 (take k ws)
pending_no k ws r l e t = take_next k ws r r l e ∙ (ap (λ y. numbers_of 0 (take k ws) ++ cond y (k ∷ []) []) t ∙ append-nil (numbers_of 0 (take k ws)))
