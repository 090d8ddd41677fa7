-- What a storage site is asked to open.
use Rattle.wire_messages.specs.declared.body.Body.{Body}
use Rattle.wire_messages.specs.declared.body.Body.TheVariants as body
use Rattle.site_laws.specs.Vectors.HistoryCommits.{IsSite}

-- an instance that a storage site is asked to open is of one of the sixteen sites
abbrev pub OpensForSite : Body → Type 0
OpensForSite (body.OpenSs inst file mode set kind base vector parents) = IsSite inst.us
OpensForSite _ = Unit {0}
