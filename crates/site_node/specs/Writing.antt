-- What becomes of the disk in an event of the site, as its parts have it.
pub use Rattle.site_parts.specs.Writing.{EventWrites, IsCutIn, IsCutOff, disk_answer, replaces}
