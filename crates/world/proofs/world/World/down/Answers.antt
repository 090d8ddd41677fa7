use Rattle.std.proofs.Common.{◌∷◌, refl}
use Rattle.the_run.specs.Worlds.{is_cut}
use Rattle.the_run.specs.Runs.{cuts_circuit}
use Rattle.world.specs.States.{state_of}
use Rattle.world.proofs.Asking.{void_asked, done_asked}
use Rattle.world.proofs.LineLaws.{cut_answer, circuits_follow}
use Rattle.world.proofs.world.World.down.Goals as goal

pub returns-then-is_cut : goal.returns-then-is_cut
returns-then-is_cut c = void_asked c.args.line (λ w. is_cut w c.args.one c.args.other) (λ k w. cuts_circuit c.args.one c.args.other w) c.is_cut.result (state_of c.args.self.now) _ (cut_answer (state_of c.args.self.now) c.args.one c.args.other c.is_cut.result c.is_cut.ensures) c.if-is_cut.true c.in_ok-void.ensures

pub returns : goal.returns
returns c = done_asked c.args.line (λ w. is_cut w c.args.one c.args.other) (λ k w. cuts_circuit c.args.one c.args.other w) c.is_cut.result (state_of c.args.self.now) _ (cut_answer (state_of c.args.self.now) c.args.one c.args.other c.is_cut.result c.is_cut.ensures) c.if-is_cut.false (circuits_follow (λ cs. record { one = c.args.one; other = c.args.other } ∷ cs) (state_of c.args.self.now) _ refl refl c.in_ok-cut.ensures refl)
