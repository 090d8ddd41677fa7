-- The messages that a directory shows are those that were put in and not taken out, each once and under its plain name.
use Rattle.std.proofs.Common.{◌≡◌, ℕ, ◌≤◌, ◌%◌, ◌==◌, max, Bool, true, false, not, ◌&&◌, ◌||◌, cond, List, [], ◌∷◌, filter, map, refl, sym, ◌∙◌, ap, subst, arith}
use Rattle.std.proofs.lemmas.Bool.Decides.{nat_tests}
use Rattle.std.proofs.lemmas.Cmp.{nat_list_cmp_total, tied_itself}
use Rattle.std.proofs.lemmas.Map.Lookups.{exact_bytes}
use Rattle.std.proofs.lemmas.Slice.Eq.{bytes_eq-Decides}
use Rattle.std.specs.Cmp.Lexicographic.{slice_cmp}
use Rattle.std.specs.List.{AllByRecursion}
use Rattle.std.specs.Ordering.{nat_cmp, ordering_reverse, ordering_then}
use Rattle.std.specs.Str.{bytes_eq}
use Rattle.std.specs.declared.cmp.Ordering.{Ordering}
use Rattle.std.specs.declared.cmp.Ordering.TheVariants.{Less, Equal, Greater}
use Rattle.plain_facts.proofs.Tests.{and_second, false_unless, true_false}
use Rattle.trace_book.specs.Messages.{is_message, messages}
use Rattle.trace_book.specs.Names.{plain_name}
use Rattle.dir_format.specs.declared.entry.Entry.{Entry}
use Rattle.dir_format.specs.Entries.{Ascends, IsDir, IsEntry, entry_cmp, is_live}
use Rattle.dir_format.specs.Lookups.{are_several, has_name, is_shared, shown_name, shown_names}
use Rattle.dir_format.proofs.Orders.{entry_total}
use Rattle.dir_format.proofs.Tests.{all_weaker}
use Rattle.headline_laws.specs.Boxes.Boxes.{at_place, in_order, is_among, with_name}
use Rattle.headline_laws.proofs.Boxes.Boxing.{Box, Good, GoodIfMessage, name_bytes, plain_marked, plain_whole, rank}
use Rattle.headline_laws.proofs.Boxes.Levels.{bytes_back, from_zero, level, share, share_named}

-- ---- names in order ----

abbrev before : List ℕ → List ℕ → Ordering
before a b = slice_cmp nat_cmp a b

-- each name stands before all that follow it
abbrev pub NamesAscend : List (List ℕ) → Type 0
NamesAscend [] = Unit {0}
NamesAscend (n ∷ ns) = AllByRecursion (λ m. before n m ≡ Less) ns × NamesAscend ns

less_not_same : (a b : List ℕ) → before a b ≡ Less → bytes_eq a b ≡ false
less_not_same a b less = false_unless (bytes_eq a b) (λ e. clash (sym less ∙ (ap (before a) (sym ((bytes_eq-Decides a b).0 e)) ∙ tied_itself nat_list_cmp_total a)))
  where
    clash : Less ≡ Equal → ⊥
    clash e = cc

reversed : (a b : List ℕ) (o : Ordering) → before a b ≡ o → before b a ≡ ordering_reverse o
reversed a b o e = nat_list_cmp_total.antisymm b a ∙ ap ordering_reverse e

placed_all : (P : List ℕ → Type 0) (o : Ordering) (n m : List ℕ) (ms others : List (List ℕ)) → P n → P m → AllByRecursion P ms → AllByRecursion P others → AllByRecursion P (at_place o n m ms others)
placed_all P Less n m ms others pn pm h k = (pn, (pm, h))
placed_all P Equal n m ms others pn pm h k = (pm, h)
placed_all P Greater n m ms others pn pm h k = (pm, k)

all_with : (P : List ℕ → Type 0) (n : List ℕ) (ms : List (List ℕ)) → P n → AllByRecursion P ms → AllByRecursion P (with_name n ms)
all_with P n [] pn h = (pn, tt)
all_with P n (m ∷ ms) pn h = placed_all P (before n m) n m ms (with_name n ms) pn h.0 h.1 (all_with P n ms pn h.1)

with_ascends : (n : List ℕ) (ms : List (List ℕ)) → NamesAscend ms → NamesAscend (with_name n ms)
with_ascends n [] h = (tt, tt)
with_ascends n (m ∷ ms) h = over (before n m) refl (with_ascends n ms h.1)
  where
    over : (o : Ordering) → before n m ≡ o → NamesAscend (with_name n ms) → NamesAscend (at_place o n m ms (with_name n ms))
    over Less e k = ((e, all_weaker (λ x lt. nat_list_cmp_total.trans n m x e lt) ms h.0), h)
    over Equal e k = h
    over Greater e k = (all_with (λ x. before m x ≡ Less) n ms (reversed n m Greater e) h.0, k)

order_ascends : (ns : List (List ℕ)) → NamesAscend (in_order ns)
order_ascends [] = tt
order_ascends (n ∷ ns) = with_ascends n (in_order ns) (order_ascends ns)

-- it has the same names

or_swap : (a b c : Bool) → (a || (b || c)) ≡ (b || (a || c))
or_swap true true c = refl
or_swap true false c = refl
or_swap false b c = refl

or_twice : (a c : Bool) → (a || c) ≡ (a || (a || c))
or_twice true c = refl
or_twice false c = refl

with_among : (n : List ℕ) (ms : List (List ℕ)) (x : List ℕ) → is_among (with_name n ms) x ≡ (bytes_eq x n || is_among ms x)
with_among n [] x = refl
with_among n (m ∷ ms) x = over (before n m) refl (with_among n ms x)
  where
    over : (o : Ordering) → before n m ≡ o → is_among (with_name n ms) x ≡ (bytes_eq x n || is_among ms x) → is_among (at_place o n m ms (with_name n ms)) x ≡ (bytes_eq x n || (bytes_eq x m || is_among ms x))
    over Less e k = refl
    over Equal e k = or_twice (bytes_eq x m) (is_among ms x) ∙ ap (λ (y : List ℕ). bytes_eq x y || (bytes_eq x m || is_among ms x)) (sym (exact_bytes n m e))
    over Greater e k = ap (λ (b : Bool). bytes_eq x m || b) k ∙ or_swap (bytes_eq x m) (bytes_eq x n) (is_among ms x)

order_among : (ns : List (List ℕ)) (x : List ℕ) → is_among (in_order ns) x ≡ is_among ns x
order_among [] x = refl
order_among (n ∷ ns) x = with_among n (in_order ns) x ∙ ap (λ (b : Bool). bytes_eq x n || b) (order_among ns x)

-- two lists in order with the same names are one

none_below : (n : List ℕ) (ms : List (List ℕ)) → AllByRecursion (λ m. before n m ≡ Less) ms → is_among ms n ≡ false
none_below n [] h = refl
none_below n (m ∷ ms) h = ap (λ (b : Bool). b || is_among ms n) (less_not_same n m h.0) ∙ none_below n ms h.1

first_among : (n : List ℕ) (ms : List (List ℕ)) → is_among (n ∷ ms) n ≡ true
first_among n ms = ap (λ (b : Bool). b || is_among ms n) ((bytes_eq-Decides n n).1 refl)

nothing_there : true ≡ false → ⊥
nothing_there e = cc

pub one_order : (ns ms : List (List ℕ)) → NamesAscend ns → NamesAscend ms → ((x : List ℕ) → is_among ns x ≡ is_among ms x) → ns ≡ ms
one_order [] [] h k same = refl
one_order [] (m ∷ ms) h k same = absurd (nothing_there (sym (first_among m ms) ∙ sym (same m)))
one_order (n ∷ ns) [] h k same = absurd (nothing_there (sym (first_among n ns) ∙ same n))
one_order (n ∷ ns) (m ∷ ms) h k same = over (before n m) refl (one_order ns ms h.1 k.1)
  where
    clash : (a b : List ℕ) (as_after bs : List (List ℕ)) → before a b ≡ Less → AllByRecursion (λ x. before b x ≡ Less) bs → is_among (a ∷ as_after) a ≡ is_among (b ∷ bs) a → ⊥
    clash a b as_after bs less rest e = nothing_there (sym (first_among a as_after) ∙ (e ∙ none_below a (b ∷ bs) (less, all_weaker (λ x lt. nat_list_cmp_total.trans a b x less lt) bs rest)))

    over : (o : Ordering) → before n m ≡ o → (((x : List ℕ) → is_among ns x ≡ is_among ms x) → ns ≡ ms) → n ∷ ns ≡ m ∷ ms
    over Less e later = absurd (clash n m ns ms e k.0 (same n))
    over Greater e later = absurd (clash m n ms ns (reversed n m Greater e) h.0 (sym (same m)))
    over Equal e later = ap (λ (y : List ℕ). y ∷ ns) first ∙ ap (λ (l : List (List ℕ)). m ∷ l) (later others)
      where
        first : n ≡ m
        first = exact_bytes n m e

        below : AllByRecursion (λ x. before n x ≡ Less) ms
        below = subst (λ (y : List ℕ). AllByRecursion (λ x. before y x ≡ Less) ms) (sym first) k.0

        others : (x : List ℕ) → is_among ns x ≡ is_among ms x
        others x = at (bytes_eq x n) refl
          where
            at : (b : Bool) → bytes_eq x n ≡ b → is_among ns x ≡ is_among ms x
            at true q = subst (λ (y : List ℕ). is_among ns y ≡ is_among ms y) (sym ((bytes_eq-Decides x n).0 q)) (none_below n ns h.0 ∙ sym (none_below n ms below))
            at false q = sym (ap (λ (b : Bool). b || is_among ns x) q) ∙ (same x ∙ (ap (λ (y : List ℕ). bytes_eq x y || is_among ms x) (sym first) ∙ ap (λ (b : Bool). b || is_among ms x) q))

pub filter_among : (p : List ℕ → Bool) (ns : List (List ℕ)) (x : List ℕ) → is_among (filter p ns) x ≡ (p x && is_among ns x)
filter_among p [] x = sym (over (p x))
  where
    over : (b : Bool) → (b && false) ≡ false
    over true = refl
    over false = refl
filter_among p (n ∷ ns) x = over (p n) refl (filter_among p ns x)
  where
    at : (b : Bool) → p n ≡ b → (a : Bool) → bytes_eq x n ≡ a → a ≡ true → p x ≡ b
    at b e a k q = ap p ((bytes_eq-Decides x n).0 (k ∙ q)) ∙ e

    over : (b : Bool) → p n ≡ b → is_among (filter p ns) x ≡ (p x && is_among ns x) → is_among (cond b (n ∷ filter p ns) (filter p ns)) x ≡ (p x && (bytes_eq x n || is_among ns x))
    over true e later = both (bytes_eq x n) refl
      where
        both : (a : Bool) → bytes_eq x n ≡ a → (bytes_eq x n || is_among (filter p ns) x) ≡ (p x && (bytes_eq x n || is_among ns x))
        both true q = ap (λ (b : Bool). b || is_among (filter p ns) x) q ∙ sym (ap (λ (b : Bool). p x && (b || is_among ns x)) q ∙ ap (λ (b : Bool). b && true) (at true e true q refl))
        both false q = ap (λ (b : Bool). b || is_among (filter p ns) x) q ∙ (later ∙ sym (ap (λ (b : Bool). p x && (b || is_among ns x)) q))
    over false e later = both (bytes_eq x n) refl
      where
        both : (a : Bool) → bytes_eq x n ≡ a → is_among (filter p ns) x ≡ (p x && (bytes_eq x n || is_among ns x))
        both true q = later ∙ (ap (λ (b : Bool). b && is_among ns x) (at false e true q refl) ∙ sym (ap (λ (b : Bool). b && (bytes_eq x n || is_among ns x)) (at false e true q refl)))
        both false q = later ∙ sym (ap (λ (b : Bool). p x && (b || is_among ns x)) q)

-- ---- the messages of a directory ----

-- the names of its live messages
abbrev pub live_messages : List Entry → List (List ℕ)
live_messages [] = []
live_messages (d ∷ ds) = cond (is_live d && is_message d.name) (d.name ∷ live_messages ds) (live_messages ds)

module _ (Put : List ℕ → ℕ → Type 0) (Saw : ℕ → List ℕ → Type 0) (once : (name : List ℕ) (a b : ℕ) → Put name a → Put name b → a ≡ b) where
  -- two entries of a message are of one pair
  same_pair : (d e : Entry) → Good Put Saw d → Good Put Saw e → e.name ≡ d.name → entry_cmp d e ≡ Equal
  same_pair d e good other is = ap (λ (n : List ℕ). ordering_then (slice_cmp nat_cmp d.name n) (nat_cmp d.ino e.ino)) is
      ∙ (ap (λ (i : ℕ). ordering_then (slice_cmp nat_cmp d.name d.name) (nat_cmp d.ino i)) (once d.name e.ino d.ino (subst (λ (n : List ℕ). Put n e.ino) is other.put) good.put) ∙ tied_itself entry_total d)

  -- so no other has its name
  alone : (d : Entry) (ds : List Entry) → Good Put Saw d → is_message d.name ≡ true → AllByRecursion (λ e. entry_cmp d e ≡ Less) ds → AllByRecursion (GoodIfMessage Put Saw) ds → AllByRecursion (λ (e : Entry). bytes_eq e.name d.name ≡ false) ds
  alone d [] good m less goods = tt
  alone d (e ∷ ds) good m less goods = (false_unless (bytes_eq e.name d.name) (λ k. clash (sym less.0 ∙ same_pair d e good (goods.0 (ap is_message ((bytes_eq-Decides e.name d.name).0 k) ∙ m)) ((bytes_eq-Decides e.name d.name).0 k))), alone d ds good m less.1 goods.1)
    where
      clash : Less ≡ Equal → ⊥
      clash q = cc

  -- ---- how far a name has come tells whether it is live ----

  none_named : (n : List ℕ) (ds : List Entry) → AllByRecursion (λ (e : Entry). bytes_eq e.name n ≡ false) ds → level ds n ≡ 0
  none_named n [] h = refl
  none_named n (e ∷ ds) h = let later : level ds n ≡ 0 = none_named n ds h.1 in ap (λ (b : Bool). max (cond b e.count 0) (level ds n)) h.0 ∙ omega (arith, later)

  none_live : (n : List ℕ) (ds : List Entry) → AllByRecursion (λ (e : Entry). bytes_eq e.name n ≡ false) ds → is_among (live_messages ds) n ≡ false
  none_live n [] h = refl
  none_live n (e ∷ ds) h = over (is_live e && is_message e.name) (none_live n ds h.1)
    where
      over : (b : Bool) → is_among (live_messages ds) n ≡ false → is_among (cond b (e.name ∷ live_messages ds) (live_messages ds)) n ≡ false
      over true later = ap (λ (b : Bool). b || is_among (live_messages ds) n) (bytes_back n e.name ∙ h.0) ∙ later
      over false later = later

  live_is : (d : Entry) → Good Put Saw d → is_live d ≡ (d.count == 1)
  live_is d good = over d.count good.some good.few
    where
      over : (k : ℕ) → 1 ≤ k → k ≤ 2 → ((k % 2) == 1) ≡ (k == 1)
      over k some few = at (k == 1) refl
        where
          at : (b : Bool) → (k == 1) ≡ b → ((k % 2) == 1) ≡ b
          at true e = grind (arith, nat_tests)
          at false e = grind (arith, nat_tests)

  among_level : (n : List ℕ) → is_message n ≡ true → (ds : List Entry) → Ascends ds → AllByRecursion (GoodIfMessage Put Saw) ds → is_among (live_messages ds) n ≡ (level ds n == 1)
  among_level n m [] up goods = refl
  among_level n m (d ∷ ds) up goods = over (bytes_eq d.name n) refl (among_level n m ds up.1 goods.1)
    where
      -- of its name
      here : d.name ≡ n → is_among (live_messages (d ∷ ds)) n ≡ (level (d ∷ ds) n == 1)
      here is = ap (λ (b : Bool). is_among (cond (is_live d && b) (d.name ∷ live_messages ds) (live_messages ds)) n) message ∙ (by (is_live d) ∙ (live_is d good ∙ ap (λ (k : ℕ). k == 1) (sym levels)))
        where
          message : is_message d.name ≡ true
          message = ap is_message is ∙ m

          good : Good Put Saw d
          good = goods.0 message

          others : AllByRecursion (λ (e : Entry). bytes_eq e.name n ≡ false) ds
          others = subst (λ (y : List ℕ). AllByRecursion (λ (e : Entry). bytes_eq e.name y ≡ false) ds) is (alone d ds good message up.0 goods.1)

          levels : level (d ∷ ds) n ≡ d.count
          levels = let own : share d n ≡ d.count = share_named d n is in let later : level ds n ≡ 0 = none_named n ds others in omega (arith, own, later)

          by : (b : Bool) → is_among (cond (b && true) (d.name ∷ live_messages ds) (live_messages ds)) n ≡ b
          by true = ap (λ (y : List ℕ). bytes_eq n y || is_among (live_messages ds) n) is ∙ first_among n (live_messages ds)
          by false = none_live n ds others

      over : (b : Bool) → bytes_eq d.name n ≡ b → is_among (live_messages ds) n ≡ (level ds n == 1) → is_among (live_messages (d ∷ ds)) n ≡ (level (d ∷ ds) n == 1)
      over true q later = here ((bytes_eq-Decides d.name n).0 q)
      over false q later = by (is_live d && is_message d.name) ∙ (later ∙ ap (λ (k : ℕ). k == 1) (sym (ap (λ (b : Bool). max (cond b d.count 0) (level ds n)) q ∙ from_zero (level ds n))))
        where
          by : (b : Bool) → is_among (cond b (d.name ∷ live_messages ds) (live_messages ds)) n ≡ is_among (live_messages ds) n
          by true = ap (λ (b : Bool). b || is_among (live_messages ds) n) (bytes_back n d.name ∙ q)
          by false = refl

  -- ---- in order ----

  live_all : (P : List ℕ → Type 0) (ds : List Entry) → AllByRecursion (λ (e : Entry). is_message e.name ≡ true → P e.name) ds → AllByRecursion P (live_messages ds)
  live_all P [] h = tt
  live_all P (e ∷ ds) h = over (is_live e && is_message e.name) refl (live_all P ds h.1)
    where
      over : (b : Bool) → (is_live e && is_message e.name) ≡ b → AllByRecursion P (live_messages ds) → AllByRecursion P (cond b (e.name ∷ live_messages ds) (live_messages ds))
      over true q later = (h.0 (and_second (is_live e) (is_message e.name) q), later)
      over false q later = later

  -- an entry that stands after one of a message has a name after its name
  after_name : (d e : Entry) → bytes_eq e.name d.name ≡ false → entry_cmp d e ≡ Less → before d.name e.name ≡ Less
  after_name d e apart less = over (before d.name e.name) refl
    where
      clash : Greater ≡ Less → ⊥
      clash q = cc

      over : (o : Ordering) → before d.name e.name ≡ o → o ≡ Less
      over Less q = refl
      over Equal q = absurd (true_false (sym ((bytes_eq-Decides e.name d.name).1 (sym (exact_bytes d.name e.name q))) ∙ apart))
      over Greater q = absurd (clash (sym (ap (λ (o : Ordering). ordering_then o (nat_cmp d.ino e.ino)) q) ∙ less))

  live_ascends : (ds : List Entry) → Ascends ds → AllByRecursion (GoodIfMessage Put Saw) ds → NamesAscend (live_messages ds)
  live_ascends [] up goods = tt
  live_ascends (d ∷ ds) up goods = over (is_live d && is_message d.name) refl (live_ascends ds up.1 goods.1)
    where
      all_after : (es : List Entry) → AllByRecursion (λ (e : Entry). bytes_eq e.name d.name ≡ false) es → AllByRecursion (λ e. entry_cmp d e ≡ Less) es → AllByRecursion (λ (e : Entry). is_message e.name ≡ true → before d.name e.name ≡ Less) es
      all_after [] a l = tt
      all_after (e ∷ es) a l = ((λ k. after_name d e a.0 l.0), all_after es a.1 l.1)

      over : (b : Bool) → (is_live d && is_message d.name) ≡ b → NamesAscend (live_messages ds) → NamesAscend (cond b (d.name ∷ live_messages ds) (live_messages ds))
      over true q later = (live_all (λ x. before d.name x ≡ Less) ds (all_after ds (alone d ds (goods.0 message) message up.0 goods.1) up.0), later)
        where
          message : is_message d.name ≡ true
          message = and_second (is_live d) (is_message d.name) q
      over false q later = later

  -- ---- what is shown ----

  none_has : (n : List ℕ) (ds : List Entry) → AllByRecursion (λ (e : Entry). bytes_eq e.name n ≡ false) ds → filter (has_name n) ds ≡ []
  none_has n [] h = refl
  none_has n (e ∷ ds) h = over (is_live e) ∙ none_has n ds h.1
    where
      over : (b : Bool) → cond (b && bytes_eq e.name n) (e ∷ filter (has_name n) ds) (filter (has_name n) ds) ≡ filter (has_name n) ds
      over true = ap (λ (b : Bool). cond b (e ∷ filter (has_name n) ds) (filter (has_name n) ds)) h.0
      over false = refl

  -- no two live entries have the name of a message
  one_has : (n : List ℕ) → is_message n ≡ true → (ds : List Entry) → Ascends ds → AllByRecursion (GoodIfMessage Put Saw) ds → are_several (filter (has_name n) ds) ≡ false
  one_has n m [] up goods = refl
  one_has n m (d ∷ ds) up goods = over (has_name n d) refl (one_has n m ds up.1 goods.1)
    where
      over : (b : Bool) → has_name n d ≡ b → are_several (filter (has_name n) ds) ≡ false → are_several (cond b (d ∷ filter (has_name n) ds) (filter (has_name n) ds)) ≡ false
      over true q later = ap (λ (l : List Entry). are_several (d ∷ l)) (none_has n ds (subst (λ (y : List ℕ). AllByRecursion (λ (e : Entry). bytes_eq e.name y ≡ false) ds) is (alone d ds (goods.0 message) message up.0 goods.1)))
        where
          is : d.name ≡ n
          is = (bytes_eq-Decides d.name n).0 (and_second (is_live d) (bytes_eq d.name n) q)

          message : is_message d.name ≡ true
          message = ap is_message is ∙ m
      over false q later = later

  module _ (all : List Entry) (sole : (n : List ℕ) → is_message n ≡ true → is_shared all n ≡ false) where
    abbrev shown : Entry → List ℕ
    shown d = shown_name d (is_shared all d.name)

    shown_plain : (d : Entry) → IsEntry d → (b : Bool) → plain_name (shown_name d b) ≡ d.name
    shown_plain d fits true = plain_marked d.name _ (name_bytes d.name fits.name)
    shown_plain d fits false = plain_whole d.name (name_bytes d.name fits.name)

    shown_messages : (ds : List Entry) → AllByRecursion IsEntry ds → messages (map shown (filter is_live ds)) ≡ live_messages ds
    shown_messages [] fits = refl
    shown_messages (d ∷ ds) fits = over (is_live d) (shown_messages ds fits.1)
      where
        plain : is_message (plain_name (shown d)) ≡ is_message d.name
        plain = ap is_message (shown_plain d fits.0 (is_shared all d.name))

        at : (b : Bool) → is_message d.name ≡ b → messages (map shown (filter is_live ds)) ≡ live_messages ds → cond b (shown d ∷ messages (map shown (filter is_live ds))) (messages (map shown (filter is_live ds))) ≡ cond b (d.name ∷ live_messages ds) (live_messages ds)
        at true q later = ap (λ (b : Bool). shown_name d b ∷ messages (map shown (filter is_live ds))) (sole d.name q) ∙ ap (λ (l : List (List ℕ)). d.name ∷ l) later
        at false q later = later

        over : (b : Bool) → messages (map shown (filter is_live ds)) ≡ live_messages ds → messages (map shown (cond b (d ∷ filter is_live ds) (filter is_live ds))) ≡ cond (b && is_message d.name) (d.name ∷ live_messages ds) (live_messages ds)
        over true later = ap (λ (b : Bool). cond b (shown d ∷ messages (map shown (filter is_live ds))) (messages (map shown (filter is_live ds)))) plain ∙ at (is_message d.name) refl later
        over false later = later

  -- ---- the whole ----

  rank_one : (put taken : Bool) → (rank put taken == 1) ≡ (put && not taken)
  rank_one true true = refl
  rank_one true false = refl
  rank_one false true = refl
  rank_one false false = refl

  tests : (m i r : Bool) → (m && (i && not r)) ≡ ((m && not r) && i)
  tests true true r = over r
    where
      over : (b : Bool) → not b ≡ (not b && true)
      over true = refl
      over false = refl
  tests true false r = over r
    where
      over : (b : Bool) → false ≡ (not b && false)
      over true = refl
      over false = refl
  tests false i r = refl

  no_message : (n : List ℕ) → is_message n ≡ false → (ds : List Entry) → is_among (live_messages ds) n ≡ false
  no_message n m [] = refl
  no_message n m (d ∷ ds) = over (is_live d && is_message d.name) refl (no_message n m ds)
    where
      over : (b : Bool) → (is_live d && is_message d.name) ≡ b → is_among (live_messages ds) n ≡ false → is_among (cond b (d.name ∷ live_messages ds) (live_messages ds)) n ≡ false
      over true q later = ap (λ (b : Bool). b || is_among (live_messages ds) n) (false_unless (bytes_eq n d.name) (λ k. true_false (sym (and_second (is_live d) (is_message d.name) q) ∙ (ap is_message (sym ((bytes_eq-Decides n d.name).0 k)) ∙ m)))) ∙ later
      over false q later = later

  pub box_shows : (put taken : List ℕ → Bool) (ds : List Entry) → IsDir ds → Box Put Saw put taken ds → (ins outs : List (List ℕ)) → ((n : List ℕ) → put n ≡ is_among ins n) → ((n : List ℕ) → taken n ≡ is_among outs n) →
      messages (shown_names ds) ≡ in_order (filter (λ name. is_message name && not (is_among outs name)) ins)
  box_shows put taken ds dir box ins outs puts takes = shown_messages ds (λ n m. one_has n m ds dir.order box.each) ds dir.entries
      ∙ one_order (live_messages ds) (in_order (filter (λ name. is_message name && not (is_among outs name)) ins)) (live_ascends ds dir.order box.each) (order_ascends (filter (λ name. is_message name && not (is_among outs name)) ins)) same
    where
      same : (n : List ℕ) → is_among (live_messages ds) n ≡ is_among (in_order (filter (λ name. is_message name && not (is_among outs name)) ins)) n
      same n = over (is_message n) refl ∙ (tests (is_message n) (is_among ins n) (is_among outs n) ∙ sym (order_among (filter (λ name. is_message name && not (is_among outs name)) ins) n ∙ filter_among (λ name. is_message name && not (is_among outs name)) ins n))
        where
          over : (b : Bool) → is_message n ≡ b → is_among (live_messages ds) n ≡ (is_message n && (is_among ins n && not (is_among outs n)))
          over true m = among_level n m ds dir.order box.each ∙ (ap (λ (k : ℕ). k == 1) (box.levels n m) ∙ (rank_one (put n) (taken n) ∙ (ap (λ (b : Bool). b && not (taken n)) (puts n) ∙ (ap (λ (b : Bool). is_among ins n && not b) (takes n) ∙ sym (ap (λ (b : Bool). b && (is_among ins n && not (is_among outs n))) m)))))
          over false m = no_message n m ds ∙ sym (ap (λ (b : Bool). b && (is_among ins n && not (is_among outs n))) m)
