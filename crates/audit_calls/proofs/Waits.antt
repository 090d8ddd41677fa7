-- The calls that wait, beside the table of all calls: what each change makes of them, and what they tell.
use Rattle.std.proofs.Common.{◌≡◌, ℕ, zero, suc, ◌+◌, ◌<◌, ◌≤◌, ◌==◌, Bool, true, false, not, ◌&&◌, ◌||◌, cond, List, [], ◌∷◌, ◌++◌, length, map, filter, set, Option, Some, None, slice_get, refl, sym, ap, subst, ◌∙◌, arith}
use Rattle.std.specs.List.{find, list_any}
use Rattle.plain_facts.proofs.Numbers.{equal_test, apart_test}
use Rattle.plain_facts.proofs.Options.{some_same}
use Rattle.promises.specs.Past.{CallSoFar}
use Rattle.audit_calls.specs.Rows.{replied}
use Rattle.audit_calls.specs.Waiting.{is_at, is_call_at, place_in, waiting_from, waiting_row}
use Rattle.audit_calls.specs.declared.waiting.WaitingRow.{WaitingRow}

-- One by one.

waits_yes : (n : ℕ) (k : CallSoFar) (ks : List CallSoFar) → k.waits ≡ true → waiting_from n (k ∷ ks) ≡ waiting_row n k ∷ waiting_from (n + 1) ks
waits_yes n k ks e = rw (e, waiting_from) refl

waits_no : (n : ℕ) (k : CallSoFar) (ks : List CallSoFar) → k.waits ≡ false → waiting_from n (k ∷ ks) ≡ waiting_from (n + 1) ks
waits_no n k ks e = rw (e, waiting_from) refl

-- one more call, which waits
pub waits_push : (n : ℕ) (ks : List CallSoFar) (k : CallSoFar) → k.waits ≡ true → waiting_from n (ks ++ k ∷ []) ≡ waiting_from n ks ++ waiting_row (n + length ks) k ∷ []
waits_push n [] k e = waits_yes n k [] e ∙ ap (λ m. waiting_row m k ∷ []) (at_end n)
  where
    at_end : (m : ℕ) → m ≡ m + 0
    at_end m = omega arith
waits_push n (y ∷ ys) k e = at y.waits (waits_push (n + 1) ys k e ∙ ap (λ m. waiting_from (n + 1) ys ++ waiting_row m k ∷ []) (further n (length ys)))
  where
    further : (m l : ℕ) → (m + 1) + l ≡ m + suc l
    further m l = omega arith

    at : (b : Bool) → waiting_from (n + 1) (ys ++ k ∷ []) ≡ waiting_from (n + 1) ys ++ waiting_row (n + suc (length ys)) k ∷ [] → cond b (waiting_row n y ∷ waiting_from (n + 1) (ys ++ k ∷ [])) (waiting_from (n + 1) (ys ++ k ∷ [])) ≡ cond b (waiting_row n y ∷ waiting_from (n + 1) ys) (waiting_from (n + 1) ys) ++ waiting_row (n + suc (length ys)) k ∷ []
    at true before = ap (λ ws. waiting_row n y ∷ ws) before
    at false before = before

-- a row that is changed, and waits as before
pub waits_kept : (n : ℕ) (ks : List CallSoFar) (i : ℕ) (k x : CallSoFar) → slice_get ks i ≡ Some k → x.waits ≡ k.waits → ((m : ℕ) → waiting_row m x ≡ waiting_row m k) → waiting_from n (set ks i x) ≡ waiting_from n ks
waits_kept n [] i k x e w r = refl
waits_kept n (y ∷ ys) zero k x e w r = at (some_same y k e)
  where
    at : y ≡ k → cond x.waits (waiting_row n x ∷ waiting_from (n + 1) ys) (waiting_from (n + 1) ys) ≡ cond y.waits (waiting_row n y ∷ waiting_from (n + 1) ys) (waiting_from (n + 1) ys)
    at s =
        ap (λ b. cond b (waiting_row n x ∷ waiting_from (n + 1) ys) (waiting_from (n + 1) ys)) (w ∙ ap (λ (z : CallSoFar). z.waits) (sym s))
        ∙ ap (λ v. cond y.waits (v ∷ waiting_from (n + 1) ys) (waiting_from (n + 1) ys)) (r n ∙ ap (waiting_row n) (sym s))
waits_kept n (y ∷ ys) (suc i) k x e w r = ap (λ ws. cond y.waits (waiting_row n y ∷ ws) ws) (waits_kept (n + 1) ys i k x e w r)

-- those that stand behind a place aren't at it
behind : (m n : ℕ) (ks : List CallSoFar) → m < n → filter (λ (w : WaitingRow). not (w.place == m)) (waiting_from n ks) ≡ waiting_from n ks
behind m n [] l = refl
behind m n (y ∷ ys) l = at y.waits (behind m (n + 1) ys (omega (arith, l)))
  where
    at : (b : Bool) → filter (λ (w : WaitingRow). not (w.place == m)) (waiting_from (n + 1) ys) ≡ waiting_from (n + 1) ys → filter (λ (w : WaitingRow). not (w.place == m)) (cond b (waiting_row n y ∷ waiting_from (n + 1) ys) (waiting_from (n + 1) ys)) ≡ cond b (waiting_row n y ∷ waiting_from (n + 1) ys) (waiting_from (n + 1) ys)
    at true before = rw (apart_test n m (λ e. omega (arith, l, e))) (ap (λ ws. waiting_row n y ∷ ws) before)
    at false before = before

-- a row that waits no more
pub waits_ended : (n : ℕ) (ks : List CallSoFar) (i : ℕ) (x : CallSoFar) → x.waits ≡ false → waiting_from n (set ks i x) ≡ filter (λ (w : WaitingRow). not (w.place == n + i)) (waiting_from n ks)
waits_ended n [] i x e = refl
waits_ended n (y ∷ ys) zero x e = waits_no n x ys e ∙ at y.waits
  where
    same : (m : ℕ) → m ≡ m + 0
    same m = omega arith

    rest : waiting_from (n + 1) ys ≡ filter (λ (w : WaitingRow). not (w.place == n + 0)) (waiting_from (n + 1) ys)
    rest = sym (behind (n + 0) (n + 1) ys (omega arith))

    at : (b : Bool) → waiting_from (n + 1) ys ≡ filter (λ (w : WaitingRow). not (w.place == n + 0)) (cond b (waiting_row n y ∷ waiting_from (n + 1) ys) (waiting_from (n + 1) ys))
    at true = rw (equal_test n (n + 0) (same n)) rest
    at false = rest
waits_ended n (y ∷ ys) (suc i) x e = at y.waits (waits_ended (n + 1) ys i x e ∙ ap (λ m. filter (λ (w : WaitingRow). not (w.place == m)) (waiting_from (n + 1) ys)) (further n i))
  where
    further : (m l : ℕ) → (m + 1) + l ≡ m + suc l
    further m l = omega arith

    at : (b : Bool) → waiting_from (n + 1) (set ys i x) ≡ filter (λ (w : WaitingRow). not (w.place == n + suc i)) (waiting_from (n + 1) ys) → cond b (waiting_row n y ∷ waiting_from (n + 1) (set ys i x)) (waiting_from (n + 1) (set ys i x)) ≡ filter (λ (w : WaitingRow). not (w.place == n + suc i)) (cond b (waiting_row n y ∷ waiting_from (n + 1) ys) (waiting_from (n + 1) ys))
    at true before = rw (apart_test n (n + suc i) (λ f. omega (arith, f))) (ap (λ ws. waiting_row n y ∷ ws) before)
    at false before = before

-- What is asked of the calls that wait is asked of these.
pub waits_any : (q : CallSoFar → Bool) (r : WaitingRow → Bool) → ((m : ℕ) (k : CallSoFar) → q k ≡ r (waiting_row m k)) → (n : ℕ) (ks : List CallSoFar) → list_any (λ (k : CallSoFar). k.waits && q k) ks ≡ list_any r (waiting_from n ks)
waits_any q r tells n [] = refl
waits_any q r tells n (y ∷ ys) = at y.waits (waits_any q r tells (n + 1) ys)
  where
    at : (b : Bool) → list_any (λ (k : CallSoFar). k.waits && q k) ys ≡ list_any r (waiting_from (n + 1) ys) → ((b && q y) || list_any (λ (k : CallSoFar). k.waits && q k) ys) ≡ list_any r (cond b (waiting_row n y ∷ waiting_from (n + 1) ys) (waiting_from (n + 1) ys))
    at true before = ap (λ b. b || list_any (λ (k : CallSoFar). k.waits && q k) ys) (tells n y) ∙ ap (λ b. r (waiting_row n y) || b) before
    at false before = before

-- A site's calls.

-- the row of one that waits at the site
pub record Standing (site n : ℕ) (ks : List CallSoFar) (w : WaitingRow) : Type 0 where
  pub place : ℕ
  pub row : CallSoFar
  pub place_is : w.place ≡ n + place
  pub row_is : slice_get ks place ≡ Some row
  pub at_site : is_call_at site row ≡ true

pub found_standing : (site n : ℕ) (ks : List CallSoFar) (w : WaitingRow) → find (is_at site) (waiting_from n ks) ≡ Some w → Standing site n ks w
found_standing site n [] w e = absurd (cc)
found_standing site n (y ∷ ys) w e = at y.waits (found_standing site (n + 1) ys w) e
  where
    later : Standing site (n + 1) ys w → Standing site n (y ∷ ys) w
    later s = record { place = suc s.place; row = s.row; place_is = s.place_is ∙ further n s.place; row_is = s.row_is; at_site = s.at_site }
      where
        further : (m l : ℕ) → (m + 1) + l ≡ m + suc l
        further m l = omega arith

    here : (b : Bool) → (find (is_at site) (waiting_from (n + 1) ys) ≡ Some w → Standing site (n + 1) ys w) → (y.id.site == site) ≡ b → cond b (Some (waiting_row n y)) (find (is_at site) (waiting_from (n + 1) ys)) ≡ Some w → Standing site n (y ∷ ys) w
    here true rest t f = record { place = 0; row = y; place_is = ap (λ (v : WaitingRow). v.place) (sym (some_same (waiting_row n y) w f)) ∙ at_end n; row_is = refl; at_site = t }
      where
        at_end : (m : ℕ) → m ≡ m + 0
        at_end m = omega arith
    here false rest t f = later (rest f)

    at : (b : Bool) → (find (is_at site) (waiting_from (n + 1) ys) ≡ Some w → Standing site (n + 1) ys w) → find (is_at site) (cond b (waiting_row n y ∷ waiting_from (n + 1) ys) (waiting_from (n + 1) ys)) ≡ Some w → Standing site n (y ∷ ys) w
    at true rest f = here (y.id.site == site) rest refl f
    at false rest f = later (rest f)

-- a call that waits for nothing is as it is when it is replied to
pub replied_same : (k : CallSoFar) → k.waits ≡ false → replied k ≡ k
replied_same k e = ap (λ b. record k { waits = b }) (sym e)

-- each call of the site waits no more
abbrev pub all_replied : ℕ → List CallSoFar → List CallSoFar
all_replied site ks = map (λ k. cond (is_call_at site k) (replied k) k) ks

pub none_stands : (site n : ℕ) (ks : List CallSoFar) → find (is_at site) (waiting_from n ks) ≡ None → all_replied site ks ≡ ks
none_stands site n [] e = refl
none_stands site n (y ∷ ys) e = at y.waits (none_stands site (n + 1) ys) refl e
  where
    head : (z : CallSoFar) → all_replied site ys ≡ ys → z ≡ y → z ∷ all_replied site ys ≡ y ∷ ys
    head z f s = ap (λ zs. z ∷ zs) f ∙ ap (λ v. v ∷ ys) s

    waiting : (b : Bool) → (find (is_at site) (waiting_from (n + 1) ys) ≡ None → all_replied site ys ≡ ys) → cond b (Some (waiting_row n y)) (find (is_at site) (waiting_from (n + 1) ys)) ≡ None → cond b (replied y) y ∷ all_replied site ys ≡ y ∷ ys
    waiting true rest f = absurd (cc)
    waiting false rest f = head y (rest f) refl

    resting : (b : Bool) → y.waits ≡ false → cond b (replied y) y ≡ y
    resting true w = replied_same y w
    resting false w = refl

    at : (b : Bool) → (find (is_at site) (waiting_from (n + 1) ys) ≡ None → all_replied site ys ≡ ys) → y.waits ≡ b → find (is_at site) (cond b (waiting_row n y ∷ waiting_from (n + 1) ys) (waiting_from (n + 1) ys)) ≡ None → all_replied site (y ∷ ys) ≡ y ∷ ys
    at true rest w f = waiting (y.id.site == site) rest f
    at false rest w f = head (cond (is_call_at site y) (replied y) y) (rest f) (resting (is_call_at site y) w)

-- one of them more is replied to
pub one_replied : (site : ℕ) (ks : List CallSoFar) (i : ℕ) (k : CallSoFar) → slice_get ks i ≡ Some k → is_call_at site k ≡ true → all_replied site (set ks i (replied k)) ≡ all_replied site ks
one_replied site [] i k e t = refl
one_replied site (y ∷ ys) zero k e t = ap (λ z. z ∷ all_replied site ys) (ap (λ b. cond b (replied k) (replied k)) t ∙ (ap (λ b. cond b (replied k) k) (sym t) ∙ ap (λ (z : CallSoFar). cond (is_call_at site z) (replied z) z) (sym (some_same y k e))))
one_replied site (y ∷ ys) (suc i) k e t = ap (λ zs. cond (is_call_at site y) (replied y) y ∷ zs) (one_replied site ys i k e t)

-- and fewer wait
abbrev elsewhere : ℕ → List WaitingRow → List WaitingRow
elsewhere place ws = filter (λ (v : WaitingRow). not (v.place == place)) ws

no_more : (place : ℕ) (ws : List WaitingRow) → length (elsewhere place ws) ≤ length ws
no_more place [] = omega arith
no_more place (u ∷ us) = kept (u.place == place) (no_more place us)
  where
    kept : (b : Bool) → length (elsewhere place us) ≤ length us → length (cond (not b) (u ∷ elsewhere place us) (elsewhere place us)) ≤ suc (length us)
    kept true l = omega (arith, l)
    kept false l = omega (arith, l)

pub fewer_wait : (site : ℕ) (ws : List WaitingRow) (w : WaitingRow) → find (is_at site) ws ≡ Some w → length (filter (λ (v : WaitingRow). not (v.place == w.place)) ws) < length ws
fewer_wait site [] w e = absurd (cc)
fewer_wait site (v ∷ vs) w e = at (v.site == site) (fewer_wait site vs w) e
  where
    here : v ≡ w → length (elsewhere w.place (v ∷ vs)) < suc (length vs)
    here s = rw (equal_test v.place w.place (ap (λ (u : WaitingRow). u.place) s)) (omega (arith, no_more w.place vs))

    later : (b : Bool) → length (elsewhere w.place vs) < length vs → length (cond (not b) (v ∷ elsewhere w.place vs) (elsewhere w.place vs)) < suc (length vs)
    later true l = omega (arith, l)
    later false l = omega (arith, l)

    at : (b : Bool) → (find (is_at site) vs ≡ Some w → length (elsewhere w.place vs) < length vs) → cond b (Some v) (find (is_at site) vs) ≡ Some w → length (elsewhere w.place (v ∷ vs)) < suc (length vs)
    at true rest f = here (some_same v w f)
    at false rest f = later (v.place == w.place) (rest f)

-- the place that is found is that of a call of the site
pub record Stands (site : ℕ) (rows : List CallSoFar) (waiting : List WaitingRow) (place : ℕ) : Type 0 where
  pub row : CallSoFar
  pub row_is : slice_get rows place ≡ Some row
  pub at_site : is_call_at site row ≡ true
  pub fewer : length (filter (λ (v : WaitingRow). not (v.place == place)) waiting) < length waiting

pub stands_there : (site : ℕ) (rows : List CallSoFar) (waiting seen : List WaitingRow) (o : Option ℕ) (place : ℕ) → seen ≡ waiting → waiting ≡ waiting_from 0 rows → o ≡ place_in (find (is_at site) seen) → o ≡ Some place → Stands site rows waiting place
stands_there site rows waiting seen o place same stand found some = at (find (is_at site) waiting) refl (ap (λ ws. place_in (find (is_at site) ws)) (sym same) ∙ (sym found ∙ some))
  where
    row_of : (w : WaitingRow) → w.place ≡ place → find (is_at site) waiting ≡ Some w → Standing site 0 rows w → Stands site rows waiting place
    row_of w p f s = record {
      row = s.row;
      row_is = ap (slice_get rows) (sym p ∙ (s.place_is ∙ from_none s.place)) ∙ s.row_is;
      at_site = s.at_site;
      fewer = subst (λ n. length (elsewhere n waiting) < length waiting) p (fewer_wait site waiting w f);
    }
      where
        from_none : (n : ℕ) → 0 + n ≡ n
        from_none n = omega arith

    at : (f : Option WaitingRow) → find (is_at site) waiting ≡ f → place_in f ≡ Some place → Stands site rows waiting place
    at None f e = absurd (cc)
    at (Some w) f e = row_of w (some_same w.place place e) f (found_standing site 0 rows w (ap (find (is_at site)) (sym stand) ∙ f))

pub stands_nowhere : (site : ℕ) (rows : List CallSoFar) (waiting seen : List WaitingRow) (o : Option ℕ) → seen ≡ waiting → waiting ≡ waiting_from 0 rows → o ≡ place_in (find (is_at site) seen) → o ≡ None → all_replied site rows ≡ rows
stands_nowhere site rows waiting seen o same stand found none = none_stands site 0 rows (no_row (find (is_at site) (waiting_from 0 rows)) (ap (λ ws. place_in (find (is_at site) ws)) (sym (same ∙ stand)) ∙ (sym found ∙ none)))
  where
    no_row : (f : Option WaitingRow) → place_in f ≡ None → f ≡ None
    no_row None e = refl
    no_row (Some w) e = absurd (cc)

pub ended_at : (rows rows2 : List CallSoFar) (waiting waiting2 : List WaitingRow) (place : ℕ) (k : CallSoFar) → waiting ≡ waiting_from 0 rows → rows2 ≡ set rows place (replied k) → waiting2 ≡ filter (λ (w : WaitingRow). not (w.place == place)) waiting → waiting2 ≡ waiting_from 0 rows2
ended_at rows rows2 waiting waiting2 place k stand new left =
    left ∙ (ap (elsewhere place) stand ∙ (ap (λ n. elsewhere n (waiting_from 0 rows)) (from_none place) ∙ (sym (waits_ended 0 rows place (replied k) refl) ∙ ap (waiting_from 0) (sym new))))
  where
    from_none : (n : ℕ) → n ≡ 0 + n
    from_none n = omega arith
