-- What the texts that define the tables mean.
use Rattle.std.proofs.Common.{◌≡◌, Ok, refl}
use Rattle.sqlite.specs.Compile.{table_defined_by, index_defined_by}
use Rattle.sqlite_tied.specs.Compute.{everything}
use Rattle.sqlite.specs.Does.{sequence_text}
use Rattle.post_tables.specs.Schema.{create_post, create_option, create_template, create_active, create_index, post_table, sequence_table, option_table}
use Rattle.post_tables.specs.Schema.{template_table, active_table, date_index, post_checks}

pub post_is : table_defined_by create_post ≡ Ok post_table
unfolding everything post_checks
post_is = refl

pub sequence_is : table_defined_by sequence_text ≡ Ok (record sequence_table { tree = 0 })
unfolding everything
sequence_is = refl

pub option_is : table_defined_by create_option ≡ Ok (record option_table { tree = 0 })
unfolding everything
option_is = refl

pub template_is : table_defined_by create_template ≡ Ok (record template_table { tree = 0 })
unfolding everything
template_is = refl

pub active_is : table_defined_by create_active ≡ Ok (record active_table { tree = 0 })
unfolding everything
active_is = refl

pub index_is : index_defined_by post_table create_index ≡ Ok (record date_index { tree = 0 })
unfolding everything
index_is = refl
