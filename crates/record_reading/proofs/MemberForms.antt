-- The form of the members of an epoch: ascending sites with their boots.
use Rattle.std.proofs.Common.{◌≡◌, ℕ, zero, suc, ◌+◌, ◌-◌, ◌<◌, ◌≤◌, ◌==◌, Bool, true, false, codes, List, [], ◌∷◌, ◌++◌, map, length, get_or, set, fold, replicate, Some, refl, sym, ap, subst, ◌∙◌, append_assoc, arith, lit<, ⊎_elim, eq-eqb}
use Rattle.std.specs.Prelude.{◌&&◌, nat_lt}
use Rattle.std.specs.Fmt.{decimal}
use Rattle.std.specs.List.{join_by, join_with_byte, list_all}
use Rattle.std.proofs.lemmas.Bool.{and_parts, cases_lt, eqb-true, false≢true, lt-ltb}
use Rattle.std.proofs.lemmas.List.{append-nil, ext_get_or, get_or-set_other, get_or-set_same, length-set}
use Rattle.std.proofs.lemmas.List.Splits.{join_with_byte-slice_split}
use Rattle.std.proofs.lemmas.List.Sums.{fold-append}
use Rattle.std.proofs.lemmas.Option.{option_and_then_some, same_Some}
use Rattle.locus_ids.specs.Sizes.{sites_max}
use Rattle.locus_ids.specs.declared.ids.Member.{Member}
use Rattle.locus_ids.specs.declared.sites.Members.{Members}
use Rattle.trace_book.specs.Text.{member_text, members_text, members_to}
use Rattle.schedule_lines.specs.Ranges.{is_between}
use Rattle.line_text.specs.Words.{pieces}
use Rattle.line_text.proofs.CallForms.{and_both}
use Rattle.line_text.proofs.NumberTexts.{between_parts, is_between_from}
use Rattle.line_text.proofs.Splits.{true_or_false}
use Rattle.record_words.specs.Fields.{member_from, members_in, with_members}
use Rattle.record_words.specs.Order.{number_max}
use Rattle.record_reading.specs.Ranges.{is_counted, is_members}
use Rattle.record_reading.proofs.Forms.{Exact, Says, Word, joined_word, made_word, number_free, number_word}
use Rattle.record_reading.proofs.ListForms.{has_item, joins, some_items, split_again}

-- ---- one member

abbrev is_member_from : ℕ → Member → Bool
is_member_from least m = is_between least sites_max m.site && is_counted m.boot

member_word : (least : ℕ) → Word 44 member_text (is_member_from least) (member_from least)
member_word least =
    made_word 44 (λ (t : ℕ × ℕ). record { site = t.0; boot = t.1 }) (λ (m : Member). (m.site, m.boot)) (λ m. refl)
    (λ t. sym (append_assoc (decimal t.0) (codes ":") (decimal t.1))) (λ t. refl)
    (joined_word 44 58 refl (number_free 58 least sites_max refl (lit< tt)) (number_word 44 least sites_max refl (lit< tt)) (number_word 44 1 number_max refl (lit< tt)))

-- ---- members and their boots

-- from this place on there is no boot
abbrev ZerosFrom : ℕ → List ℕ → Type 0
ZerosFrom k boots = (i : ℕ) → k ≤ i → get_or boots i 0 ≡ 0

same_members : (n : ℕ) (b c : List ℕ) → ((i : ℕ) → i < n → get_or b i 0 ≡ get_or c i 0) → members_to b n ≡ members_to c n
same_members zero b c f = refl
same_members (suc n) b c f = rw (f n (omega arith), same_members n b c (λ i lt. f i (omega arith))) refl

no_more : (n k : ℕ) (boots : List ℕ) → k ≤ n → ZerosFrom k boots → members_to boots n ≡ members_to boots k
no_more zero k boots le zeros = let e : k ≡ 0 = omega arith in rw e refl
no_more (suc n) k boots le zeros =
    ⊎_elim
    (λ (lt : k < suc n). rw (zeros n (omega arith)) (append-nil (members_to boots n) ∙ no_more n k boots (omega arith) zeros))
    (λ (ge : suc n ≤ k). let e : k ≡ suc n = omega arith in rw e refl)
    (cases_lt k (suc n))

-- the boots with that of one member
abbrev put : List ℕ → Member → List ℕ
put boots m = set boots (m.site - 1) m.boot

put_zeros : (boots : List ℕ) (least : ℕ) (m : Member) → 1 ≤ least → least ≤ m.site → ZerosFrom (least - 1) boots → ZerosFrom m.site (put boots m)
put_zeros boots least m one le zeros i above =
    let other : i ≡ m.site - 1 → ⊥ = λ e. omega arith in
    get_or-set_other boots (m.site - 1) i m.boot 0 other ∙ zeros i (omega arith)

put_member : (boots : List ℕ) (least : ℕ) (m : Member) → length boots ≡ sites_max → 1 ≤ least → least ≤ m.site → m.site ≤ sites_max → 1 ≤ m.boot → ZerosFrom (least - 1) boots →
    members_to (put boots m) m.site ≡ members_to boots (least - 1) ++ (m ∷ [])
put_member boots least m size one le top some zeros =
    let n = m.site - 1 in
    let site : m.site ≡ suc n = omega arith in
    let boot : get_or (put boots m) n 0 ≡ m.boot = get_or-set_same boots n m.boot 0 (omega arith) in
    let before : members_to (put boots m) n ≡ members_to boots (least - 1) =
    same_members n (put boots m) boots (λ i lt. get_or-set_other boots n i m.boot 0 (λ e. omega arith)) ∙ no_more n (least - 1) boots (omega arith) zeros in
    let is : (m.boot == 0) ≡ false = ⊎_elim (λ (e : (m.boot == 0) ≡ true). absurd (let z = eqb-true m.boot 0 e in omega arith)) (λ (e : (m.boot == 0) ≡ false). e) (true_or_false (m.boot == 0)) in
    let one_more : members_to (put boots m) (suc n) ≡ members_to boots (least - 1) ++ (record { site = suc n; boot = m.boot } ∷ []) = rw (boot, is, before) refl in
    ap (members_to (put boots m)) site ∙ one_more ∙ ap (λ s. members_to boots (least - 1) ++ (record { site = s; boot = m.boot } ∷ [])) (sym site)

abbrev bounded : List ℕ → Bool
bounded boots = list_all (is_between 0 number_max) boots

put_bounded : (boots : List ℕ) (i b : ℕ) → bounded boots ≡ true → is_between 0 number_max b ≡ true → bounded (set boots i b) ≡ true
put_bounded [] i b h f = refl
put_bounded (c ∷ cs) zero b h f = and_both _ _ f (and_parts (is_between 0 number_max c) (bounded cs) h).1
put_bounded (c ∷ cs) (suc i) b h f =
    let p = and_parts (is_between 0 number_max c) (bounded cs) h in
    and_both _ _ p.0 (put_bounded cs i b p.1 f)

-- ---- what is read

-- the words are those of these members, which come after those of the boots before
record ReadOn (words : List (List ℕ)) (least : ℕ) (boots : List ℕ) (m : Members) : Type 0 where
  more : List Member
  texts : words ≡ map member_text more
  all : members_to m.boot sites_max ≡ members_to boots (least - 1) ++ more
  size : length m.boot ≡ sites_max
  small : bounded m.boot ≡ true

read_on : (words : List (List ℕ)) (least : ℕ) (boots : List ℕ) (m : Members) → with_members least boots words ≡ Some m → 1 ≤ least → least ≤ sites_max + 1 → length boots ≡ sites_max → ZerosFrom (least - 1) boots → bounded boots ≡ true → ReadOn words least boots m
read_on [] least boots m h one top size zeros small =
    let e : record { boot = boots } ≡ m = same_Some (record { boot = boots }) m h in
    subst (ReadOn [] least boots) e (record {
      more = [];
      texts = refl;
      all = no_more sites_max (least - 1) boots (omega arith) zeros ∙ sym (append-nil (members_to boots (least - 1)));
      size = size;
      small = small;
    })
read_on (word ∷ words) least boots m h one top size zeros small =
    option_and_then_some _ (member_from least word) m h (λ x e g.
    let says = (member_word least).form.sound word x e in
    let p = and_parts (is_between least sites_max x.site) (is_counted x.boot) says.1 in
    let r = between_parts least sites_max x.site p.0 in
    let b = between_parts 1 number_max x.boot p.1 in
    let before : (x.site + 1) - 1 ≡ x.site = omega arith in
    let zeros2 = put_zeros boots least x one r.0 zeros in
    let on = read_on words (x.site + 1) (put boots x) m g (omega arith) (omega (arith, r.1)) (length-set boots (x.site - 1) x.boot ∙ size) (λ i le. zeros2 i (omega arith))
    (put_bounded boots (x.site - 1) x.boot small (is_between_from 0 number_max x.boot (omega arith) b.1)) in record {
      more = x ∷ on.more;
      texts = ap (λ l. l ∷ words) says.0 ∙ ap (λ l. member_text x ∷ l) on.texts;
      all = on.all ∙ ap (λ k. members_to (put boots x) k ++ on.more) before ∙ ap (λ l. l ++ on.more) (put_member boots least x size one r.0 r.1 b.0 zeros) ∙ append_assoc (members_to boots (least - 1)) (x ∷ []) on.more;
      size = on.size;
      small = on.small;
    })

abbrev no_boots : List ℕ
no_boots = replicate sites_max 0

no_boots_zero : (i : ℕ) → get_or no_boots i 0 ≡ 0
no_boots_zero i = grind arith

members_sound : (w : List ℕ) (m : Members) → members_in w ≡ Some m → Says members_text is_members w m
members_sound w m h =
    let on = read_on (pieces 44 w) 1 no_boots m h (omega arith) (omega arith) refl (λ i le. no_boots_zero i) refl in
    let text : w ≡ join_by member_text (codes ",") on.more = sym (join_with_byte-slice_split 44 w) ∙ ap (join_with_byte 44) on.texts ∙ joins member_text 44 on.more in
    let some : nat_lt 0 (length on.more) ≡ true = item_there on.more (some_items member_text 44 w on.more on.texts) in
    (text ∙ ap (join_by member_text (codes ",")) (sym on.all), and_both _ _ (and_both _ _ (eq-eqb (length m.boot) sites_max on.size) on.small) (ap (λ l. nat_lt 0 (length l)) on.all ∙ some))
  where
    item_there : (ms : List Member) → has_item ms ≡ true → nat_lt 0 (length ms) ≡ true
    item_there [] e = absurd (false≢true e)
    item_there (x ∷ xs) e = lt-ltb 0 (length (x ∷ xs)) (omega arith)

-- ---- what is read from the text

-- sites ascend from one to another, each with a boot
abbrev Ascend : ℕ → ℕ → List Member → Type 0
Ascend low high [] = Unit {0}
Ascend low high (m ∷ ms) = (low ≤ m.site) × (m.site ≤ high) × (is_counted m.boot ≡ true) × Ascend (m.site + 1) high ms

ascend_more : (low high higher : ℕ) (ms : List Member) → high ≤ higher → Ascend low high ms → Ascend low higher ms
ascend_more low high higher [] le h = tt
ascend_more low high higher (m ∷ ms) le h =
    let top : m.site ≤ high = h.1 in
    (h.0, omega arith, h.2, ascend_more (m.site + 1) high higher ms le h.3)

ascend_end : (low high : ℕ) (m : Member) (ms : List Member) → high < m.site → low ≤ m.site → is_counted m.boot ≡ true → Ascend low high ms → Ascend low m.site (ms ++ (m ∷ []))
ascend_end low high m [] lt le b h = (le, omega arith, b, tt)
ascend_end low high m (x ∷ xs) lt le b h =
    let top : x.site ≤ high = h.1 in
    (h.0, omega arith, h.2, ascend_end (x.site + 1) high m xs lt (omega arith) b h.3)

members_ascend : (boots : List ℕ) (n : ℕ) → ((i : ℕ) → get_or boots i 0 ≤ number_max) → Ascend 1 n (members_to boots n)
members_ascend boots zero top = tt
members_ascend boots (suc n) top =
    ⊎_elim
    (λ (e : (get_or boots n 0 == 0) ≡ true). rw (e, append-nil (members_to boots n)) (ascend_more 1 n (suc n) (members_to boots n) (omega arith) (members_ascend boots n top)))
    (λ (e : (get_or boots n 0 == 0) ≡ false).
    let counted = is_between_from 1 number_max (get_or boots n 0) (above (get_or boots n 0) e) (top n) in
    rw e (ascend_end 1 n (record { site = suc n; boot = get_or boots n 0 }) (members_to boots n) (omega arith) (omega arith) counted (members_ascend boots n top)))
    (true_or_false (get_or boots n 0 == 0))
  where
    above : (b : ℕ) → (b == 0) ≡ false → 1 ≤ b
    above zero e = absurd (false≢true (sym e))
    above (suc b) e = omega arith

read_members : (ms : List Member) (least : ℕ) (boots : List ℕ) → Ascend least sites_max ms → with_members least boots (map member_text ms) ≡ Some (record { boot = fold put boots ms })
read_members [] least boots h = refl
read_members (m ∷ ms) least boots h =
    let fit : is_member_from least m ≡ true = and_both _ _ (is_between_from least sites_max m.site h.0 h.1) h.2 in
    rw ((member_word least).form.complete m fit) (read_members ms (m.site + 1) (put boots m) h.3)

-- the boots of the first sites
abbrev first_boots : List ℕ → ℕ → List ℕ
first_boots boots n = fold put no_boots (members_to boots n)

record Filled (boots : List ℕ) (n : ℕ) : Type 0 where
  size : length (first_boots boots n) ≡ sites_max
  first : (i : ℕ) → i < n → get_or (first_boots boots n) i 0 ≡ get_or boots i 0
  rest : ZerosFrom n (first_boots boots n)

filled : (boots : List ℕ) (n : ℕ) → n ≤ sites_max → Filled boots n
filled boots zero le = record { size = refl; first = λ i lt. absurd (omega arith); rest = λ i le. no_boots_zero i }
filled boots (suc n) le = by_boot (filled boots n (omega arith)) (get_or boots n 0 == 0) refl
  where
    by_boot : Filled boots n → (b : Bool) → (get_or boots n 0 == 0) ≡ b → Filled boots (suc n)
    by_boot before true e =
        let none : first_boots boots (suc n) ≡ first_boots boots n = rw e (ap (fold put no_boots) (append-nil (members_to boots n))) in
        let zero_boot : get_or boots n 0 ≡ 0 = eqb-true (get_or boots n 0) 0 e in record {
          size = ap length none ∙ before.size;
          first = λ i lt. ap (λ l. get_or l i 0) none ∙ ⊎_elim (λ (low : i < n). before.first i low) (λ (high : n ≤ i). let same : i ≡ n = omega arith in before.rest i high ∙ sym zero_boot ∙ ap (λ k. get_or boots k 0) (sym same)) (cases_lt i n);
          rest = λ i ge. ap (λ l. get_or l i 0) none ∙ before.rest i (omega arith);
        }
    by_boot before false e =
        let m : Member = record { site = suc n; boot = get_or boots n 0 } in
        let place : suc n - 1 ≡ n = omega arith in
        let more : first_boots boots (suc n) ≡ set (first_boots boots n) n (get_or boots n 0) =
        rw e (fold-append put no_boots (members_to boots n) (m ∷ []) ∙ ap (λ k. set (first_boots boots n) k (get_or boots n 0)) place) in record {
          size = ap length more ∙ length-set (first_boots boots n) n (get_or boots n 0) ∙ before.size;
          first = λ i lt. ap (λ l. get_or l i 0) more ∙ ⊎_elim
              (λ (low : i < n). get_or-set_other (first_boots boots n) n i (get_or boots n 0) 0 (λ t. omega arith) ∙ before.first i low)
              (λ (high : n ≤ i). let same : i ≡ n = omega arith in rw same (get_or-set_same (first_boots boots n) n (get_or boots n 0) 0 (let z = before.size in omega arith)))
              (cases_lt i n);
          rest = λ i ge. ap (λ l. get_or l i 0) more ∙ get_or-set_other (first_boots boots n) n i (get_or boots n 0) 0 (λ t. omega arith) ∙ before.rest i (omega arith);
        }

pub boot_small : (boots : List ℕ) → bounded boots ≡ true → (i : ℕ) → get_or boots i 0 ≤ number_max
boot_small [] h i = omega arith
boot_small (b ∷ bs) h zero = (between_parts 0 number_max b (and_parts (is_between 0 number_max b) (bounded bs) h).0).1
boot_small (b ∷ bs) h (suc i) = boot_small bs (and_parts (is_between 0 number_max b) (bounded bs) h).1 i

members_complete : (m : Members) → is_members m ≡ true → members_in (members_text m) ≡ Some m
members_complete m h =
    let p = and_parts (length m.boot == sites_max && bounded m.boot) (nat_lt 0 (length (members_to m.boot sites_max))) h in
    let q = and_parts (length m.boot == sites_max) (bounded m.boot) p.0 in
    let size : length m.boot ≡ sites_max = eqb-true (length m.boot) sites_max q.0 in
    let ms = members_to m.boot sites_max in
    let up = members_ascend m.boot sites_max (boot_small m.boot q.1) in
    let full = filled m.boot sites_max (omega arith) in
    let boots : first_boots m.boot sites_max ≡ m.boot = ext_get_or 0 (first_boots m.boot sites_max) m.boot (full.size ∙ sym size) (λ i lt. full.first i (let z = full.size in omega arith)) in
    ap (with_members 1 no_boots) (parted ms p.1 up) ∙ read_members ms 1 no_boots up ∙ ap (λ l. Some (record { boot = l })) boots
  where
    all_free : (ms : List Member) (low : ℕ) → 1 ≤ low → Ascend low sites_max ms → list_all (is_member_from 1) ms ≡ true
    all_free [] low one up = refl
    all_free (x ∷ xs) low one up =
        let from : low ≤ x.site = up.0 in
        and_both _ _ (and_both _ _ (is_between_from 1 sites_max x.site (omega arith) up.1) up.2) (all_free xs (x.site + 1) (omega arith) up.3)

    parted : (ms : List Member) → nat_lt 0 (length ms) ≡ true → Ascend 1 sites_max ms → pieces 44 (join_by member_text (codes ",") ms) ≡ map member_text ms
    parted [] some up = absurd (false≢true some)
    parted (x ∷ xs) some up = split_again member_text (is_member_from 1) 44 (member_word 1).free x xs (all_free (x ∷ xs) 1 (omega arith) up)

pub members_form : Exact members_text is_members members_in
members_form = record { sound = members_sound; complete = members_complete }
