pub use Rattle.the_run.specs.Kinds as Kinds
pub use Rattle.the_run.specs.KindLaws as Laws
