use Rattle.std.proofs.Common.{not, filter, ap, refl}
use Rattle.the_run.specs.Worlds.{is_cut, is_between}
use Rattle.the_run.specs.Runs.{mends_circuit}
use Rattle.world.specs.States.{state_of}
use Rattle.world.proofs.Asking.{void_asked, done_asked}
use Rattle.world.proofs.LineLaws.{uncut_answer, circuits_follow}
use Rattle.world.proofs.world.World.up.Goals as goal

pub returns-then-not-is_cut : goal.returns-then-not-is_cut
returns-then-not-is_cut c = void_asked c.args.line (λ w. not (is_cut w c.args.one c.args.other)) (λ k w. mends_circuit c.args.one c.args.other w) (not c.is_cut.result) (state_of c.args.self.now) _ (uncut_answer (state_of c.args.self.now) c.args.one c.args.other c.is_cut.result c.is_cut.ensures) (ap not c.if-not-is_cut.true) c.in_ok-void.ensures

pub returns : goal.returns
returns c = done_asked c.args.line (λ w. not (is_cut w c.args.one c.args.other)) (λ k w. mends_circuit c.args.one c.args.other w) (not c.is_cut.result) (state_of c.args.self.now) _ (uncut_answer (state_of c.args.self.now) c.args.one c.args.other c.is_cut.result c.is_cut.ensures) (ap not c.if-not-is_cut.false) (circuits_follow (λ cs. filter (λ k. not (is_between c.args.one c.args.other k)) cs) (state_of c.args.self.now) _ refl refl c.mend.ensures refl)
