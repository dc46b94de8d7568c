-- What a text is as a site file, by whether it is UTF-8 and what its tree is.
use Rattle.std.proofs.Common.{◌≡◌, inl, inr, List, ℕ, None, Some, Err}
use Rattle.std.proofs.lemmas.Str.{is_utf8-from_IsUtf8, IsUtf8-from_is_utf8}
use Rattle.std.proofs.lemmas.Bool.{cases_Bool}
use Rattle.std.specs.Str.{is_utf8, IsUtf8}
use Rattle.serde_json.specs.Data.{Data}
use Rattle.serde_json.specs.Read.{read}
use Rattle.site_import.specs.Walks.{whole}
use Rattle.site_import.specs.Site.{site_file_of, site_file_in}
use Rattle.site_import.specs.declared.fault.Section.TheVariants.{Text}
use Rattle.site_import.specs.declared.fault.ImportFault.TheVariants.{BadImport}

-- UTF-8 that reads as a tree
pub of_tree : (bytes : List ℕ) (tree : Data) → IsUtf8 bytes → read bytes ≡ Some tree → site_file_in bytes ≡ site_file_of tree
unfolding site_file_in
of_tree bytes tree utf8 e = rw (is_utf8-from_IsUtf8 bytes utf8, e)

-- bytes that are not UTF-8, or don't read as a tree
pub of_no_tree : (bytes : List ℕ) → (IsUtf8 bytes → read bytes ≡ None) → site_file_in bytes ≡ Err (BadImport (whole Text))
unfolding site_file_in
of_no_tree bytes h = elim (cases_Bool (is_utf8 bytes)) [ inl e ↦ rw (e, h (IsUtf8-from_is_utf8 bytes e)) | inr e ↦ rw e ]
