-- How many packets of a list are of a kind, as the list is put in order, joined to another, or set aside by the newest.
use Rattle.std.proofs.Common.{◌≡◌, ℕ, ◌+◌, ◌≤◌, ◌&&◌, Bool, true, false, not, cond, List, [], ◌∷◌, ◌++◌, map, Option, Some, None, refl, sym, ◌∙◌, ap, arith}
use Rattle.wire_messages.specs.declared.packet.Packet.{Packet}
use Rattle.wire_messages.specs.declared.body.Body.{Body}
use Rattle.wire_messages.specs.declared.body.Body.TheVariants as body
use Rattle.wire_messages.specs.declared.body.Opening.TheVariants as how
use Rattle.role_steps.specs.Own.{Every}
use Rattle.role_steps.specs.Tables.{put_before, sorted_onto}
use Rattle.role_steps.specs.Views.{Frame, packet, to_some}
use Rattle.the_run.specs.Steps.{is_before, in_order}
use Rattle.the_run.specs.Worlds.{Numbered, numbered_from, newest_onto}
use Rattle.row_laws.specs.Bounds.Deliveries.{serves_call, opens_mend, opens_mend_in, serves_other, count, SendsOne, packet_of}

-- ---- counts ----

pub count_append : (test : Body → Bool) (xs ys : List Packet) → count test (xs ++ ys) ≡ count test xs + count test ys
count_append test [] ys = omega arith
count_append test (x ∷ xs) ys = (let e : count test (xs ++ ys) ≡ count test xs + count test ys = count_append test xs ys in omega (arith, e))

count_put : (test : Body → Bool) (x : Packet) (ys : List Packet) → count test (put_before is_before x ys) ≡ cond (test x.body) 1 0 + count test ys
count_put test x [] = refl
count_put test x (y ∷ ys) =
    elim (is_before x y) as (λ b. count test (elim b [ true ↦ x ∷ y ∷ ys | false ↦ y ∷ put_before is_before x ys ]) ≡ cond (test x.body) 1 0 + count test (y ∷ ys)) [
      | true ↦ refl
      | false ↦ (let e : count test (put_before is_before x ys) ≡ cond (test x.body) 1 0 + count test ys = count_put test x ys in omega (arith, e))
    ]

count_onto : (test : Body → Bool) (done xs : List Packet) → count test (sorted_onto is_before done xs) ≡ count test done + count test xs
count_onto test done [] = omega arith
count_onto test done (x ∷ xs) =
    let e : count test (sorted_onto is_before (put_before is_before x done) xs) ≡ count test (put_before is_before x done) + count test xs = count_onto test (put_before is_before x done) xs in
    let f : count test (put_before is_before x done) ≡ cond (test x.body) 1 0 + count test done = count_put test x done in
    omega (arith, e, f)

pub count_order : (test : Body → Bool) (xs : List Packet) → count test (in_order xs) ≡ count test xs
count_order test xs = (let e : count test (sorted_onto is_before [] xs) ≡ 0 + count test xs = count_onto test [] xs in omega (arith, e))

-- the newest first
newest_append : (xs done : List Numbered) → newest_onto xs done ≡ newest_onto xs [] ++ done
newest_append [] done = refl
newest_append (x ∷ xs) done = newest_append xs (x ∷ done) ∙ (joined (newest_onto xs []) x done ∙ ap (λ (ys : List Numbered). ys ++ done) (sym (newest_append xs (x ∷ []))))
  where
    joined : (ys : List Numbered) (x : Numbered) (done : List Numbered) → ys ++ x ∷ done ≡ (ys ++ x ∷ []) ++ done
    joined [] x done = refl
    joined (y ∷ ys) x done = ap (λ (zs : List Numbered). y ∷ zs) (joined ys x done)

count_newest : (test : Body → Bool) (k : ℕ) (ps : List Packet) (done : List Numbered) → count test (map packet_of (newest_onto (numbered_from k ps) done)) ≡ count test ps + count test (map packet_of done)
count_newest test k [] done = omega arith
count_newest test k (p ∷ ps) done = (let e : count test (map packet_of (newest_onto (numbered_from (k + 1) ps) (record { number = k; packet = p } ∷ done))) ≡ count test ps + count test (p ∷ map packet_of done) = count_newest test (k + 1) ps (record { number = k; packet = p } ∷ done) in omega (arith, e))

-- the packets of an event, before those that were sent earlier
pub newest_sent : (k : ℕ) (ps : List Packet) (sent : List Numbered) → SendsOne ps → (more : List Numbered) × (newest_onto (numbered_from k ps) sent ≡ more ++ sent) × SendsOne (map packet_of more)
newest_sent k ps sent h = (
  newest_onto (numbered_from k ps) [],
  newest_append (numbered_from k ps) sent,
  record {
    calls = (let e : count serves_other (map packet_of (newest_onto (numbered_from k ps) [])) ≡ count serves_other ps + 0 = count_newest serves_other k ps [] in let l : count serves_other ps ≤ 1 = h.calls in omega (arith, e, l));
    mends = λ g. (let e : count (opens_mend_in g) (map packet_of (newest_onto (numbered_from k ps) [])) ≡ count (opens_mend_in g) ps + 0 = count_newest (opens_mend_in g) k ps [] in let l : count (opens_mend_in g) ps ≤ 1 = h.mends g in omega (arith, e, l));
  },
)

-- ---- few packets ----

-- one serves a call at most, and none opens a mend
pub record Few (ps : List Packet) : Type 0 where
  pub calls : count serves_other ps ≤ 1
  pub mends : (group : ℕ) → count (opens_mend_in group) ps ≡ 0

-- none serves a call
pub record Apart (ps : List Packet) : Type 0 where
  pub calls : count serves_other ps ≡ 0
  pub mends : (group : ℕ) → count (opens_mend_in group) ps ≡ 0

pub apart_none : Apart []
apart_none = record { calls = refl; mends = λ g. refl }

pub few_apart : (ps : List Packet) → Apart ps → Few ps
few_apart ps h = record { calls = (let e : count serves_other ps ≡ 0 = h.calls in omega (arith, e)); mends = h.mends }

pub apart_append : (xs ys : List Packet) → Apart xs → Apart ys → Apart (xs ++ ys)
apart_append xs ys h g = record {
  calls = (let e : count serves_other (xs ++ ys) ≡ count serves_other xs + count serves_other ys = count_append serves_other xs ys in let a : count serves_other xs ≡ 0 = h.calls in let b : count serves_other ys ≡ 0 = g.calls in omega (arith, e, a, b));
  mends = λ k. (let e : count (opens_mend_in k) (xs ++ ys) ≡ count (opens_mend_in k) xs + count (opens_mend_in k) ys = count_append (opens_mend_in k) xs ys in let a : count (opens_mend_in k) xs ≡ 0 = h.mends k in let b : count (opens_mend_in k) ys ≡ 0 = g.mends k in omega (arith, e, a, b));
}

pub few_append : (xs ys : List Packet) → Apart xs → Few ys → Few (xs ++ ys)
few_append xs ys h g = record {
  calls = (let e : count serves_other (xs ++ ys) ≡ count serves_other xs + count serves_other ys = count_append serves_other xs ys in let a : count serves_other xs ≡ 0 = h.calls in let b : count serves_other ys ≤ 1 = g.calls in omega (arith, e, a, b));
  mends = λ k. (let e : count (opens_mend_in k) (xs ++ ys) ≡ count (opens_mend_in k) xs + count (opens_mend_in k) ys = count_append (opens_mend_in k) xs ys in let a : count (opens_mend_in k) xs ≡ 0 = h.mends k in let b : count (opens_mend_in k) ys ≡ 0 = g.mends k in omega (arith, e, a, b));
}

-- a body that serves no call, and one that opens no mend
abbrev pub ServesNone : Body → Type 0
ServesNone b = serves_call b ≡ false

mend_serves : (g : ℕ) (b : Body) → opens_mend b ≡ false → opens_mend_in g b ≡ false
mend_serves g (body.Open serial call process request file how.Mend) h = absurd (cc)
mend_serves g _ h = refl

other_none : (b : Body) → serves_call b ≡ false → serves_other b ≡ false
other_none b h = ap (λ (t : Bool). t && not (opens_mend b)) h

none_opens : (b : Body) → serves_call b ≡ false → opens_mend b ≡ false
none_opens (body.Open serial call process request file how) h = absurd (cc)
none_opens _ h = refl

-- where it isn't counted
passed_by : (b : Bool) (n : ℕ) → b ≡ false → cond b 1 0 + n ≡ n
passed_by true n h = absurd (cc)
passed_by false n h = omega arith

pub apart_one : (p : Packet) (ps : List Packet) → ServesNone p.body → Apart ps → Apart (p ∷ ps)
apart_one p ps s h = record {
  calls = passed_by (serves_other p.body) (count serves_other ps) (other_none p.body s) ∙ h.calls;
  mends = λ g. passed_by (opens_mend_in g p.body) (count (opens_mend_in g) ps) (mend_serves g p.body (none_opens p.body s)) ∙ h.mends g;
}

pub apart_every : (ps : List Packet) → Every (λ (p : Packet). ServesNone p.body) ps → Apart ps
apart_every [] h = apart_none
apart_every (p ∷ ps) h = apart_one p ps h.0 (apart_every ps h.1)

pub few_none : Few []
few_none = few_apart [] apart_none

pub few_one : (p : Packet) → opens_mend p.body ≡ false → Few (p ∷ [])
few_one p h = record { calls = at_most (serves_other p.body); mends = λ g. passed_by (opens_mend_in g p.body) 0 (mend_serves g p.body h) }
  where
    at_most : (b : Bool) → cond b 1 0 + 0 ≤ 1
    at_most true = omega arith
    at_most false = omega arith

pub few_some : (f : Frame) (b : Body) (o : Option ℕ) → opens_mend b ≡ false → Few (to_some f b o)
few_some f b None h = few_none
few_some f b (Some to) h = few_one (packet f to b) h
