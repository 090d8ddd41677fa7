use Rattle.site_mends.proofs.Directories.{among_directories, if_ok}
use Rattle.site_mends.proofs.starting.first_wanting.Goals as goal

pub returns-clause-found : goal.returns-clause-found
returns-clause-found g c = if_ok c.first_wanting_of.result (λ found h v seen. among_directories v c.args.table.now c.directories.result.now found c.directories.ensures (h v seen)) c.first_wanting_of.ensures.found
