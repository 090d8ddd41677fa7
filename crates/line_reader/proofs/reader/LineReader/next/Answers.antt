use Rattle.std.proofs.Common.{◌≡◌, ◌+◌, ◌<◌, ◌∙◌, ap, sym, drop, take, length, arith, false}
use Rattle.line_reader.specs.Reading.{has_feed, ReadsLine, EndsInFeed, IsLong}
use Rattle.line_reader.specs.Readers.{Reader}
use Rattle.line_reader.proofs.Lines.{reads_whole, ends_in_feed, reads_rest, is_long}
use Rattle.line_reader.proofs.Told.{Between-after, Keeps-then, at_end}
use Rattle.line_reader.proofs.Windows.{nothing_more}
use Rattle.line_reader.proofs.reader.LineReader.next.Goals as goal

pub returns-in-Whole-clause-line : goal.returns-in-Whole-clause-line
returns-in-Whole-clause-line g c =
    λ _.
    let found = rw c.ahead.ensures at c.in-Whole.ensures.1 in
    let kept = rw c.forget_line.ensures.same at c.loop-len.invariant.kept in
    let held = c.loop-len.self.ahead in
    let len = c.in-Whole.len in
    rw c.hand_out.ensures
    (Between-after c.args.self.now.ahead held (drop (len + 1) held) _ _ (ReadsLine (take len held)) kept (λ left _. reads_whole held len found left))

pub returns-in-Whole-clause-feed : goal.returns-in-Whole-clause-feed
returns-in-Whole-clause-feed g c =
    λ _ _.
    let found = rw c.ahead.ensures at c.in-Whole.ensures.1 in
    let kept = rw c.forget_line.ensures.same at c.loop-len.invariant.kept in
    let held = c.loop-len.self.ahead in
    let len = c.in-Whole.len in
    rw c.hand_out.ensures
    (Between-after c.args.self.now.ahead held (drop (len + 1) held) _ _ (EndsInFeed (take len held)) kept (λ left _. ends_in_feed held len found left))

pub returns-in-Long-clause-long : goal.returns-in-Long-clause-long
returns-in-Long-clause-long g c =
    λ _.
    let kept = rw c.forget_line.ensures.same at c.loop-len.invariant.kept in
    let limit : c.limit.result ≡ c.args.self.now.limit = c.limit.ensures ∙ c.loop-len.invariant.limit ∙ ap (λ (r : Reader). r.limit) c.forget_line.ensures.same in
    let many = rw (limit, c.ahead.ensures) at c.in-Long.ensures.0 in
    let free = rw (limit, c.ahead.ensures) at c.in-Long.ensures.1 in
    let held = c.loop-len.self.ahead in
    Between-after c.args.self.now.ahead held held _ _ (λ xs ys. IsLong c.args.self.now.limit xs) kept (λ left _. is_long held c.args.self.now.limit many free left)

pub returns-clause-line : goal.returns-clause-line
returns-clause-line g c =
    λ _.
    let kept = rw c.forget_line.ensures.same at c.loop-len.invariant.kept in
    let held = c.fill.new.self.ahead in
    let len = length c.ahead-seen.result.now in
    let same : held ≡ c.loop-len.self.ahead = nothing_more held c.loop-len.self.ahead c.in_ok-fill.field-0 c.in_ok-fill.ensures.front c.in_ok-fill.ensures.grown c.if-branch-eq0.true in
    let open_line = rw c.ahead.ensures at c.in-Open.ensures.1 in
    let free : has_feed held ≡ false = ap has_feed same ∙ open_line in
    let whole : len ≡ length held = ap length c.ahead-seen.ensures ∙ ap length (sym same) in
    let some : 0 < len = omega arith in
    let end = (c.in_ok-fill.ensures.end c.if-branch-eq0.true).1 in
    rw c.hand_out-2.ensures
    (Between-after c.args.self.now.ahead held (drop (len + 1) held) _ _ (ReadsLine (take len held)) (Keeps-then _ _ _ kept c.in_ok-fill.ensures.stays.bytes)
    (λ left e. reads_rest held len whole some free left (at_end _ left end e)))
