use Rattle.std.proofs.Common.{refl, sym, ◌∙◌, ◌-◌, false, arith}
use Rattle.site_place.specs.Places.{stops_in}
use Rattle.world.specs.States.{state_of}
use Rattle.world.proofs.Tables.{state_read, state_none}
use Rattle.world.proofs.Asking.{stop_absent, stop_stopped, stop_follows, noted, stop_sends_none}
use Rattle.world.proofs.Reading.{stopped_along}
use Rattle.world.proofs.world.World.stop.Goals as goal

pub returns-then-at-len : goal.returns-then-at-len
returns-then-at-len c = stop_absent c.args.site (state_of c.args.self.now) (omega arith) (omega arith) c.args.line _ (state_none c.args.self.now.places.items c.args.site (c.from-at.result - 1) (omega arith) (omega arith)) c.in_ok-void.ensures

pub returns-then-is_stopped : goal.returns-then-is_stopped
returns-then-is_stopped c = stop_stopped c.args.site (state_of c.args.self.now) (omega arith) (omega arith) c.args.line _ c.index.result.now (state_read c.args.self.now.places.items c.args.site (c.from-at.result - 1) c.index.result.now (omega arith) (omega arith) c.index.ensures) (sym c.is_stopped.ensures ∙ c.if-is_stopped.true) c.in_ok-void-2.ensures

pub note_told-requires : goal.note_told-requires
note_told-requires c = stop_sends_none (stops_in c.index_mut.result.now) c.index_mut.result.now c.stop.new.self c.in_ok-out.out refl c.in_ok-out.ensures

pub returns : goal.returns
returns c =
    let x = state_of c.args.self.now in
    let p = c.index_mut.result.now in
    let at = c.from-at.result - 1 in
    let read = state_read c.args.self.now.places.items c.args.site at p (omega arith) (omega arith) c.index_mut.ensures.value in
    let before = state_read c.args.self.now.places.items c.args.site at c.index.result.now (omega arith) (omega arith) c.index.ensures in
    stop_follows c.args.line c.args.site at x _ (omega arith) (omega arith) (omega arith) (omega arith) p read
    (stopped_along _ c.index.result.now p false before read (sym c.is_stopped.ensures ∙ c.if-is_stopped.false))
    (noted x _ c.args.line at p c.stop.new.self (stops_in p) c.in_ok-out.out c.in_ok-out.ensures c.in_ok-note_told.ensures.config c.in_ok-note_told.ensures.places c.in_ok-note_told.ensures.cuts c.in_ok-note_told.ensures.book)
