-- The sizes of the product, each said once. Code has the same numbers in src/sizes.rt.
use Rattle.std.specs.Prelude.{ℕ, ◌^◌}

-- the greatest number of sites; sites are 1 to this
abbrev pub sites_max : ℕ
sites_max = 16

-- the greatest inode of a filegroup, and the number of inodes of a pack; inodes are 1 to this
abbrev pub inodes_max : ℕ
inodes_max = 1024

-- the most bytes that a content has on a disk and in memory, whatever kind of file it is of
abbrev pub content_bytes_max : ℕ
content_bytes_max = 1110016

-- the most bytes that a call gives a file; a call is refused that would pass it, also where a content could have more
abbrev pub file_bytes_max : ℕ
file_bytes_max = 65536

-- the most bytes that a directory is given; a call is refused that would pass it
abbrev pub directory_bytes_max : ℕ
directory_bytes_max = 65536

-- the bytes of a page
abbrev pub page_bytes : ℕ
page_bytes = 1024

-- the most pages that a content has: those that content_bytes_max bytes take; a slot and its tables name as many
abbrev pub content_pages_max : ℕ
content_pages_max = 1084

-- how many pages of a content its slot names: the first ones; tables name the others
abbrev pub slot_pages : ℕ
slot_pages = 60

-- how many pages of a content a table names
abbrev pub table_pages : ℕ
table_pages = 512

-- the most tables that a content has
abbrev pub content_tables_max : ℕ
content_tables_max = 2

-- the tables of a pack
abbrev pub pack_tables : ℕ
pack_tables = 64

-- the pages of a pack
abbrev pub pack_pages : ℕ
pack_pages = 3072

-- how many inode numbers of a filegroup a site has to give
abbrev pub site_inodes : ℕ
site_inodes = 64

-- how many descriptors of a process are open at once; they are 0 up to this
abbrev pub descriptors_max : ℕ
descriptors_max = 16

-- descriptors that a line may name are below this, and the key of a descriptor is process * descriptor_span + descriptor
abbrev pub descriptor_span : ℕ
descriptor_span = 65536

-- inodes are below this, and the key of a file is group * inode_span + inode
abbrev pub inode_span : ℕ
inode_span = 65536

-- sets of sites are below this: one bit stands for each site
abbrev pub set_span : ℕ
set_span = 2 ^ sites_max
