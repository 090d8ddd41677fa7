-- The laws of values by cases, of counted bytes and of frames.
use Rattle.std.proofs.Common.{◌≡◌, ℕ, zero, suc, ◌+◌, ◌^◌, ◌<◌, ◌≤◌, Bool, true, false, IsTrue, cond, eqb, ltb, List, [], ◌∷◌, ◌++◌, length, take, drop, Result, Ok, Err, refl, sym, ap, subst, ◌∙◌, append_assoc, arith}
use Rattle.std.proofs.lemmas.Bool.{eqb-true, ltb-false, le-ltb}
use Rattle.std.proofs.lemmas.List.{take_at, drop_at, take-append-drop, length-append, length-take, append-nil, nil_from_length, drop-take, drop-drop}
use Rattle.field_codec.specs.declared.faults.FieldFault.{FieldFault}
use Rattle.field_codec.specs.declared.faults.FieldFault.TheVariants.{Short, Range}
use Rattle.field_codec.specs.Codec.{Unread, Read, past, ◌>>=◌, Codec, AreBytes, read_fixed, u32, slice}
use Rattle.field_codec.specs.Sums.{nothing, choose, Kinds, no_kind, kind, tagged}
use Rattle.field_codec.specs.Shapes.{Spelled, by, bytes_of, IsInRange, case_of, cases, only, counted_bytes, repeated, window, read_frame, ended, framed}
use Rattle.field_codec.proofs.Laws.{Lawful, Takes, Takes-then, rest_at, bind_ok, guard_ok, ok_is, slice_laws, u32_laws, empty_laws, AreBytes-drop, AreBytes-take}
use Rattle.field_codec.proofs.Sums.{LawfulKinds, tagged_laws, no_kind_laws, variant_laws}
use Rattle.field_codec.proofs.Lists.{list_laws}

-- each of the kinds: a codec of values with its tag, which are in range
pub record LawfulCases {B : Type 0} (tag_of : B → ℕ) (fields : B → Spelled) (kinds : Kinds B) : Type 0 where
  pub each : LawfulKinds tag_of kinds
  pub fits : (tag : ℕ) (x : B) → (kinds.body tag).Fits x → IsInRange (fields x)
  pub spelled : (tag : ℕ) (x : B) → (kinds.body tag).Fits x → (kinds.body tag).spell x ≡ bytes_of (fields x)

module _ {A B : Type 0} (fields : B → Spelled) (to : A → B) (c : Codec A) where
  pub case_laws : ((a : A) → c.Fits a → bytes_of (fields (to a)) ≡ c.spell a) → Lawful c → Lawful (case_of fields to c)
  case_laws same laws = record { takes = takes; again = again } where
    takes : (u : Unread) (x : B) (after : Unread) → AreBytes u.bytes → (case_of fields to c).read u ≡ Ok (x, after) → Takes u (bytes_of (fields x)) after × ((a : A) × (to a ≡ x) × c.Fits a)
    takes u x after h e =
        let a = bind_ok (c.read u) (λ r. Ok (to r.0, r.1)) (x, after) e in
        let k = laws.takes u a.0.0 a.0.1 h a.1 in
        let P : B × Unread → Type 0 = λ y. Takes u (bytes_of (fields y.0)) y.1 × ((v : A) × (to v ≡ y.0) × c.Fits v) in
        subst P (ok_is (to a.0.0, a.0.1) (x, after) a.2) (subst (λ (t : List ℕ). Takes u t a.0.1) (sym (same a.0.0 k.1)) k.0, (a.0.0, refl, k.1))

    again : (x : B) (at : ℕ) (rest : List ℕ) → (a : A) × (to a ≡ x) × c.Fits a → (case_of fields to c).read (rest_at at (bytes_of (fields x) ++ rest)) ≡ Ok (x, rest_at (at + length (bytes_of (fields x))) rest)
    again x at rest h =
        let P : B → Type 0 = λ b. (case_of fields to c).read (rest_at at (bytes_of (fields b) ++ rest)) ≡ Ok (b, rest_at (at + length (bytes_of (fields b))) rest) in
        subst P h.1 (from h.0 (bytes_of (fields (to h.0))) (same h.0 h.2) h.2) where
          from : (a : A) (text : List ℕ) → text ≡ c.spell a → c.Fits a → (case_of fields to c).read (rest_at at (text ++ rest)) ≡ Ok (to a, rest_at (at + length text) rest)
          from a text e f = rw (e, laws.again a at rest f) refl

pub no_case_laws : {B : Type 0} (tag_of : B → ℕ) (fields : B → Spelled) → LawfulCases tag_of fields no_kind
no_case_laws tag_of fields = record { each = no_kind_laws tag_of; fits = λ tag x h. absurd h; spelled = λ tag x h. absurd h }

module _ {A B : Type 0} {tag_of : B → ℕ} {fields : B → Spelled} {others : Kinds B} (n : ℕ) (to : A → B) (c : Codec A) where
  -- one case more
  pub more_laws : ((a : A) → c.Fits a → tag_of (to a) ≡ n) → ((a : A) → c.Fits a → bytes_of (fields (to a)) ≡ c.spell a) → ((a : A) → c.Fits a → IsInRange (fields (to a))) → Lawful c
      → LawfulCases tag_of fields others → LawfulCases tag_of fields (kind n (case_of fields to c) others)
  more_laws tags same within laws more = record {
    each = record { laws = λ tag. chosen tag (eqb tag n); own = λ tag x h. owned tag x (eqb tag n) refl h };
    fits = λ tag x h. fitting tag x (eqb tag n) h;
    spelled = λ tag x h. spelling tag x (eqb tag n) h;
  } where
    chosen : (tag : ℕ) (b : Bool) → Lawful (choose b (case_of fields to c) (others.body tag))
    chosen tag true = case_laws fields to c same laws
    chosen tag false = more.each.laws tag

    owned : (tag : ℕ) (x : B) (b : Bool) → eqb tag n ≡ b → (choose b (case_of fields to c) (others.body tag)).Fits x → tag_of x ≡ tag
    owned tag x true e h = ap tag_of (sym h.1) ∙ tags h.0 h.2 ∙ sym (eqb-true _ _ e)
    owned tag x false e h = more.each.own tag x h

    fitting : (tag : ℕ) (x : B) (b : Bool) → (choose b (case_of fields to c) (others.body tag)).Fits x → IsInRange (fields x)
    fitting tag x true h = subst (λ (y : B). IsInRange (fields y)) h.1 (within h.0 h.2)
    fitting tag x false h = more.fits tag x h

    spelling : (tag : ℕ) (x : B) (b : Bool) → (choose b (case_of fields to c) (others.body tag)).Fits x → (choose b (case_of fields to c) (others.body tag)).spell x ≡ bytes_of (fields x)
    spelling tag x true h = refl
    spelling tag x false h = more.spelled tag x h

module _ {B : Type 0} {tag_of : B → ℕ} {fields : B → Spelled} {kinds : Kinds B} where
  -- `covers` says of each value that its tag and its fields are of a case
  pub cases_laws : LawfulCases tag_of fields kinds → ((x : B) → IsInRange (fields x) → (tagged tag_of kinds).Fits x) → Lawful (cases tag_of fields kinds)
  cases_laws every covers = record { takes = takes; again = again } where
    laws : Lawful (tagged tag_of kinds)
    laws = tagged_laws every.each

    takes : (u : Unread) (x : B) (after : Unread) → AreBytes u.bytes → (tagged tag_of kinds).read u ≡ Ok (x, after) → Takes u (tag_of x ∷ bytes_of (fields x)) after × IsInRange (fields x)
    takes u x after h e =
        let k = laws.takes u x after h e in
        (subst (λ (t : List ℕ). Takes u (tag_of x ∷ t) after) (every.spelled (tag_of x) x k.1.2) k.0, every.fits (tag_of x) x k.1.2)

    again : (x : B) (at : ℕ) (rest : List ℕ) → IsInRange (fields x) → (tagged tag_of kinds).read (rest_at at ((tag_of x ∷ bytes_of (fields x)) ++ rest)) ≡ Ok (x, rest_at (at + length (tag_of x ∷ bytes_of (fields x))) rest)
    again x at rest h =
        let f = covers x h in
        let P : List ℕ → Type 0 = λ t. (tagged tag_of kinds).read (rest_at at ((tag_of x ∷ t) ++ rest)) ≡ Ok (x, rest_at (at + length (tag_of x ∷ t)) rest) in
        subst P (every.spelled (tag_of x) x f.2) (laws.again x at rest f)

pub only_laws : {A : Type 0} (v : A) → Lawful (only v)
only_laws {A} v = record { takes = takes; again = again } where
  takes : (u : Unread) (x : A) (after : Unread) → AreBytes u.bytes → (only v).read u ≡ Ok (x, after) → Takes u [] after × (x ≡ v)
  takes u x after h e =
      let given : A × Unread = (v, u) in
      subst (λ (y : A × Unread). Takes u [] y.1 × (y.0 ≡ v)) (ok_is given (x, after) e) (record { parts = refl; place = omega arith; rest_fits = h }, refl)

  again : (x : A) (at : ℕ) (rest : List ℕ) → x ≡ v → (only v).read (rest_at at rest) ≡ Ok (x, rest_at (at + 0) rest)
  again x at rest h = ap (λ (y : A × ℕ). Ok (y.0, rest_at y.1 rest)) (pairs v x at (at + 0) (sym h) (omega arith)) where
    pairs : (a b : A) (m n : ℕ) → a ≡ b → m ≡ n → (let p : A × ℕ = (a, m) in p) ≡ (b, n)
    pairs a b m n e f = cc

plain : (bs : List ℕ) (at : ℕ) (rest : List ℕ) → read_fixed (length bs) (λ (t : List ℕ). t) (rest_at at (bs ++ rest)) ≡ Ok (bs, rest_at (at + length bs) rest)
unfolding read_fixed
plain bs at rest =
    let long : ltb (length (bs ++ rest)) (length bs) ≡ false = le-ltb _ _ (omega (arith, length-append bs rest)) in
    rw (long, take_at bs rest (length bs) refl, drop_at bs rest (length bs) refl) refl

module _ {count : Codec ℕ} (count_laws : Lawful count) where
  pub counted_bytes_laws : Lawful (counted_bytes count)
  counted_bytes_laws = record { takes = takes; again = again } where
    takes : (u : Unread) (bs : List ℕ) (after : Unread) → AreBytes u.bytes → (counted_bytes count).read u ≡ Ok (bs, after) → Takes u (count.spell (length bs) ++ bs) after × count.Fits (length bs)
    takes u bs after h e =
        let a = bind_ok (count.read u) (λ n. read_fixed n.0 (λ bs. bs) n.1) (bs, after) e in
        let first = count_laws.takes u a.0.0 a.0.1 h a.1 in
        let second = (slice_laws a.0.0).takes a.0.1 bs after first.0.rest_fits a.2 in
        let together = Takes-then u (count.spell a.0.0) a.0.1 bs after first.0 second.0 in
        subst (λ (n : ℕ). Takes u (count.spell n ++ bs) after × count.Fits n) (sym second.1.0) (together, first.1)

    again : (bs : List ℕ) (at : ℕ) (rest : List ℕ) → count.Fits (length bs) → (counted_bytes count).read (rest_at at ((count.spell (length bs) ++ bs) ++ rest)) ≡ Ok (bs, rest_at (at + length (count.spell (length bs) ++ bs)) rest)
    again bs at rest h =
        let text : List ℕ = count.spell (length bs) in
        let place : (at + length text) + length bs ≡ at + length (text ++ bs) = omega (arith, length-append text bs) in
        ap (λ (t : List ℕ). (counted_bytes count).read (rest_at at t)) (append_assoc text bs rest)
        ∙ rw (count_laws.again (length bs) at (bs ++ rest) h, plain bs (at + length text) rest) (ap (λ (n : ℕ). Ok (bs, rest_at n rest)) place)

pub repeated_laws : {A : Type 0} {c : Codec A} (n : ℕ) → Lawful c → Lawful (repeated n c)
repeated_laws {A} {c} n laws = list_laws (variant_laws (λ _. n) (λ _. tt) (λ _. refl) empty_laws) laws

-- a frame that was read
frame_ok : (u : Unread) (n : ℕ × Unread) (f : Unread × Unread) → cond (ltb (length n.1.bytes) n.0) (Err (Range u.at)) (Ok (window n.0 n.1, past n.0 n.1)) ≡ Ok f → (n.0 ≤ length n.1.bytes) × (window n.0 n.1 ≡ f.0) × (past n.0 n.1 ≡ f.1)
frame_ok u n f e =
    let g = guard_ok (ltb (length n.1.bytes) n.0) (Range u.at) (window n.0 n.1, past n.0 n.1) f e in
    (ltb-false _ _ g.0, ap (λ (p : Unread × Unread). p.0) g.1, ap (λ (p : Unread × Unread). p.1) g.1)

ended_ok : (u : Unread) (x : Unit {0}) → ended u ≡ Ok x → u.bytes ≡ []
ended_ok u x e =
    let g = guard_ok (ltb 0 (length u.bytes)) (Range u.at) tt x e in
    let over : length u.bytes ≤ 0 = ltb-false _ _ g.0 in
    nil_from_length u.bytes (omega arith)

module _ {A : Type 0} {c : Codec A} (laws : Lawful c) where
  pub framed_laws : Lawful (framed c)
  framed_laws = record { takes = takes; again = again } where
    inner : (n : ℕ) (u w : Unread) (x : A) (left : Unread) → AreBytes u.bytes → n ≤ length u.bytes → window n u ≡ w → c.read w ≡ Ok (x, left) → left.bytes ≡ [] → (take n u.bytes ≡ c.spell x) × (length (c.spell x) ≡ n) × c.Fits x
    inner n u w x left h le same e none =
        let k = laws.takes (window n u) x left (AreBytes-take n u.bytes h) (rw same e) in
        let all : take n u.bytes ≡ c.spell x = k.0.parts ∙ ap (λ (t : List ℕ). c.spell x ++ t) none ∙ append-nil (c.spell x) in
        (all, omega (arith, ap length all, length-take n u.bytes), k.1)

    takes : (u : Unread) (x : A) (after : Unread) → AreBytes u.bytes → (framed c).read u ≡ Ok (x, after) → Takes u (u32.spell (length (c.spell x)) ++ c.spell x) after × (c.Fits x × (length (c.spell x) < 2 ^ 32))
    takes u x after h e =
        let f = bind_ok (read_frame u) (λ f. c.read f.0 >>= λ r. ended r.1 >>= λ _. Ok (r.0, f.1)) (x, after) e in
        let n = bind_ok (u32.read u) (λ n. cond (ltb (length n.1.bytes) n.0) (Err (Range u.at)) (Ok (window n.0 n.1, past n.0 n.1))) f.0 f.1 in
        let r = bind_ok (c.read f.0.0) (λ r. ended r.1 >>= λ _. Ok (r.0, f.0.1)) (x, after) f.2 in
        let t = bind_ok (ended r.0.1) (λ _. Ok (r.0.0, f.0.1)) (x, after) r.2 in
        let first = u32_laws.takes u n.0.0 n.0.1 h n.1 in
        let parts = frame_ok u n.0 f.0 n.2 in
        let body = inner n.0.0 n.0.1 f.0.0 r.0.0 r.0.1 first.0.rest_fits parts.0 parts.1 r.1 (ended_ok r.0.1 t.0 t.1) in
        let given : A × Unread = (r.0.0, f.0.1) in
        let Goal : A × Unread → Type 0 = λ y. Takes u (u32.spell (length (c.spell y.0)) ++ c.spell y.0) y.1 × (c.Fits y.0 × (length (c.spell y.0) < 2 ^ 32)) in
        let rest : Takes n.0.1 (c.spell r.0.0) (past n.0.0 n.0.1) = record {
          parts = sym (take-append-drop n.0.0 n.0.1.bytes) ∙ ap (λ (s : List ℕ). s ++ drop n.0.0 n.0.1.bytes) body.0;
          place = omega (arith, body.1);
          rest_fits = AreBytes-drop n.0.0 n.0.1.bytes first.0.rest_fits;
        } in
        let whole = Takes-then u (u32.spell n.0.0) n.0.1 (c.spell r.0.0) (past n.0.0 n.0.1) first.0 rest in
        let moved : Takes u (u32.spell n.0.0 ++ c.spell r.0.0) f.0.1 = subst (λ (v : Unread). Takes u (u32.spell n.0.0 ++ c.spell r.0.0) v) parts.2 whole in
        subst Goal (ok_is given (x, after) t.2)
        (subst (λ (k : ℕ). Takes u (u32.spell k ++ c.spell r.0.0) f.0.1 × (c.Fits r.0.0 × (k < 2 ^ 32))) (sym body.1) (moved, (body.2, first.1)))

    again : (x : A) (at : ℕ) (rest : List ℕ) → c.Fits x × (length (c.spell x) < 2 ^ 32) → (framed c).read (rest_at at ((u32.spell (length (c.spell x)) ++ c.spell x) ++ rest)) ≡ Ok (x, rest_at (at + length (u32.spell (length (c.spell x)) ++ c.spell x)) rest)
    again x at rest h =
        let text : List ℕ = c.spell x in
        let head : List ℕ = u32.spell (length text) in
        let long : ltb (length (text ++ rest)) (length text) ≡ false = le-ltb _ _ (omega (arith, length-append text rest)) in
        let body : c.read (rest_at (at + length head) text) ≡ Ok (x, rest_at ((at + length head) + length text) []) = ap (λ (t : List ℕ). c.read (rest_at (at + length head) t)) (sym (append-nil text)) ∙ laws.again x (at + length head) [] h.0 in
        let place : (at + length head) + length text ≡ at + length (head ++ text) = omega (arith, length-append head text) in
        ap (λ (t : List ℕ). (framed c).read (rest_at at t)) (append_assoc head text rest)
        ∙ rw (u32_laws.again (length text) at (text ++ rest) h.1, long, take_at text rest (length text) refl, drop_at text rest (length text) refl, body) (ap (λ (n : ℕ). Ok (x, rest_at n rest)) place)

-- a frame, where its bytes lie in memory
pub frame_read : (n at : ℕ) (bytes : List ℕ) (u v : Unread) → u32.read u ≡ Ok (n, v) → rest_at at (drop at bytes) ≡ v → n ≤ length v.bytes
    → read_frame u ≡ Ok (rest_at at (drop at (take (at + n) bytes)), rest_at (at + n) (drop (at + n) bytes))
frame_read n at bytes u v e same le =
    let long : ltb (length v.bytes) n ≡ false = le-ltb _ _ le in
    let start : Unread = rest_at at (drop at bytes) in
    rw (e, long, ← same) (rw (drop-take at n bytes, drop-drop n at bytes) refl)
