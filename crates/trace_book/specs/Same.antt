-- Whether two names of epochs, calls or instances are the same.
use Rattle.std.specs.Prelude.{◌==◌, Bool, ◌&&◌}
use Rattle.locus_ids.specs.declared.ids.EpochId.{EpochId}
use Rattle.locus_ids.specs.declared.ids.CallId.{CallId}
use Rattle.locus_ids.specs.declared.ids.Serial.{Serial}

abbrev pub same_epoch : EpochId → EpochId → Bool
same_epoch a b = (a.number == b.number) && (a.site == b.site) && (a.boot == b.boot)

abbrev pub same_call : CallId → CallId → Bool
same_call a b = (a.site == b.site) && (a.boot == b.boot) && (a.n == b.n)

abbrev pub same_serial : Serial → Serial → Bool
same_serial a b = (a.us == b.us) && (a.serial == b.serial)
