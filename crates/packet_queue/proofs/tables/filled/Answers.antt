use Rattle.std.proofs.Common.{◌≡◌, ◌<◌, ◌≤◌, ◌+◌, ◌-◌, ◌++◌, ⊎_elim, ℕ, List, refl, ap, ◌∙◌, arith, length, take, get_or, length-append, length-take}
use Rattle.std.proofs.lemmas.Bool.{cases_lt}
use Rattle.std.proofs.lemmas.List.{get_or-take, get_or_append_left, get_or-append_right}
use Rattle.packet_queue.proofs.tables.filled.Goals as goal

-- a list of one value, with more of it behind
one_value : {X : Type 0} (x : X) (old piece : List X) (n : ℕ) → n ≤ 256 → ((j : ℕ) (d : X) → j < 256 → get_or piece j d ≡ x) → ((j : ℕ) (d : X) → j < length old → get_or old j d ≡ x) → (j : ℕ) (d : X) → j < length old + n → get_or (old ++ take n piece) j d ≡ x
one_value x old piece n few same all j d lt = ⊎_elim
    (λ before. get_or_append_left old (take n piece) d j before ∙ all j d before)
    (λ behind. get_or-append_right old (take n piece) (length old) j d refl behind ∙ (get_or-take n piece (j - length old) d (omega (arith, behind, lt)) ∙ same (j - length old) d (omega (arith, behind, lt, few))))
    (cases_lt j (length old))

pub loop-made-preserved : goal.loop-made-preserved
loop-made-preserved g c =
    let old = c.loop-made.made.items in
    let piece = c.in_ok-piece.piece.items in
    let n = c.min-count.result in
    let few : n ≤ 256 = omega (arith, c.min-count.ensures) in
    let is : c.extend_from_slice.new.self.items ≡ old ++ take n piece = c.in_ok-extend_from_slice.ensures.items ∙ ap (λ z. old ++ take n z) c.deref.ensures.value in
    let long : length (old ++ take n piece) ≡ length old + n = omega (arith, length-append old (take n piece), length-take n piece, c.loop-made.invariant.long, few) in
    let wide : length c.extend_from_slice.new.self.items ≡ length old + n = ap length is ∙ long in
    record {
      long = c.loop-made.invariant.long;
      same = c.loop-made.invariant.same;
      within = omega (arith, wide, c.min-count.ensures, c.loop-made-test.true);
      all = λ j d lt. ap (λ l. get_or l j d) is ∙ one_value c.args.value old piece n few c.loop-made.invariant.same c.loop-made.invariant.all j d (omega (arith, lt, wide));
    }
