-- For worked cases.
use Rattle.std.specs.Prelude.{ℕ, List, [], ◌++◌, codes}
use Rattle.site_records.specs.declared.post.SiteRecords.{SiteRecords}

-- the records of a site file that holds nothing
abbrev pub no_records : SiteRecords
no_records = record { posts = []; options = []; templates = []; active = [] }

-- the text of a site file that has posts and nothing else, and of a post by its ID and its date
abbrev pub file_of : List ℕ → List ℕ
file_of posts = codes "{\"version\":1,\"posts\":[" ++ (posts ++ codes "]}")

abbrev pub post_of : List ℕ → List ℕ → List ℕ
post_of id date =
    codes "{\"id\":" ++ (id ++ (codes ",\"kind\":\"post\",\"status\":\"publish\",\"title\":\"T\",\"content\":\"C\",\"date\":\"" ++ (date ++ codes "\"}")))
