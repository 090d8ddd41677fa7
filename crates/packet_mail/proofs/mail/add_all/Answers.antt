use Rattle.std.proofs.Common.{◌≡◌, ◌+◌, ◌≤◌, ◌∷◌, [], ℕ, List, length, refl, ap, ◌∙◌, arith}
use Rattle.std.proofs.lemmas.List.{length-append, length-set}
use Rattle.packet_mail.proofs.Adding.{end_after, spelled_from, adds_more}
use Rattle.packet_mail.proofs.mail.add_all.Goals as goal

pub overflow_add-end : goal.overflow_add-end
overflow_add-end c = let e = end_after c.args.letters.now c.loop-i.i c.args.before c.loop-i.end c.letter-letter.result.now c.letter-letter.ensures c.requires.size c.loop-i.invariant.size in omega (arith, e.0)

pub overflow_cast-end : goal.overflow_cast-end
overflow_cast-end c = let e = end_after c.args.letters.now c.loop-i.i c.args.before c.loop-i.end c.letter-letter.result.now c.letter-letter.ensures c.requires.size c.loop-i.invariant.size in omega (arith, e.0)

pub loop-i-preserved : goal.loop-i-preserved
loop-i-preserved c =
    let letters = c.args.letters.now in
    let letter = c.letter-letter.result.now in
    let e = end_after letters c.loop-i.i c.args.before c.loop-i.end letter c.letter-letter.ensures c.requires.size c.loop-i.invariant.size in
    let s = spelled_from letters c.loop-i.i letter c.letter-letter.ensures c.loop-i.invariant.left in
    let longer = ap (λ (cs : List ℕ). length cs) c.add.ensures.circuits ∙ length-append c.loop-i.queue.circuits (c.circuit_of_letter.result ∷ []) in
    let n = c.len-number.ensures in
    let room : length c.loop-i.queue.circuits + 1 ≤ 262145 = (let k = c.loop-i.invariant.count in let t = c.loop-i-test.true in let r = c.requires.room in let l = c.len-i-end.ensures in omega arith) in
    record {
      count = (let k = c.loop-i.invariant.count in omega (arith, longer));
      table = length-set c.loop-i.ends.items _ _ ∙ c.loop-i.invariant.table;
      size = e.1;
      left = s.1;
      adds = adds_more c.args.before letters c.loop-i.i _ _ c.loop-i.queue _ c.loop-i.ends.items c.loop-i.end letter c.circuit_of_letter.result _ _ c.letter-letter.ensures (omega (arith, room)) e.0 c.add.ensures.circuits c.add.ensures.underway c.len-number.ensures refl s.0 (c.circuit_of_letter.ensures _ s.0) c.loop-i.invariant.adds;
    }
