use Rattle.std.proofs.Common.{◌+◌, ◌++◌, ap, sym, ◌∙◌, arith}
use Rattle.std.proofs.Math.Numerals.{add-one}
use Rattle.locus_ids.specs.Sizes.{sites_max}
use Rattle.trace_book.specs.Text.{member_text}
use Rattle.trace_text.proofs.Commas.{comma, members_begun, members_ended, members_written}
use Rattle.trace_text.proofs.lists.push_members.Goals as goal

pub loop-place-preserved : goal.loop-place-preserved
loop-place-preserved c = record {
  written = members_written
      c.args.out.now
      c.loop-place.out
      c.push_member.new.out
      c.args.members.now.boot
      c.loop-place.place
      (c.loop-place.place + 1)
      c.loop-place.first
      (add-one c.loop-place.place)
      (sym c.is_absent.ensures ∙ c.if-is_absent.false)
      c.loop-place.invariant.written
      c.loop-place.invariant.first
      (c.in_ok-push_member.ensures
      ∙ ap (λ z. z ++ member_text c.member_at.result) c.in_ok-push_comma.ensures
      ∙ ap (λ m. c.loop-place.out ++ comma c.loop-place.first ++ member_text m) c.member_at.ensures);
  first = members_begun c.args.members.now.boot c.loop-place.place (c.loop-place.place + 1) (add-one c.loop-place.place) (sym c.is_absent.ensures ∙ c.if-is_absent.false);
}

pub returns : goal.returns
returns c = members_ended c.args.out.now c.loop-place.out c.args.members.now.boot c.loop-place.place sites_max (omega (arith, c.loop-place.auto.place-end, c.loop-place-test.false)) c.loop-place.invariant.written
