-- Sites that are given the same edits, also those that are refused.
use Rattle.std.specs.Prelude.{◌≡◌, ℕ, true, List, All, map, filter}
use Rattle.hook_meaning.specs.Meaning.{Engine}
use Rattle.plain_data.specs.Texts.{Text}
use Rattle.site_commands.specs.Worked.{line_command}
use Rattle.site_replies.specs.Reply.{ReplyData}
use Rattle.site_serving.specs.Served.{Replied, AreCarriedOut, lines_in}
use Rattle.site_program.specs.History.{Serves}
use Rattle.site_program.specs.State.{State}
use Rattle.site_program.specs.Step.{is_edit}

abbrev pub AreEdits : List (List ℕ) → Type 0
AreEdits lines = All (λ line. is_edit (line_command line) ≡ true) lines

abbrev pub edits_in : List Replied → List Replied
edits_in replied = filter (λ r. is_edit (line_command r.line)) replied

-- the names of the plugins that there are
abbrev pub names_of : Engine → List Text
names_of engine = map (λ s. s.name) engine.plugins

module _ (steps others : State → List ℕ → State × ReplyData) where
  -- Two sites that begin with the same rows are given the same edits in one order, whatever else each is asked between them;
  -- and neither memory nor the database refuses an edit.
  pub record AreGivenTheSame (first second : State) (replied also : List Replied) (new after : State) : Type 0 where
    pub rows : first.rows ≡ second.rows
    pub served : Serves steps first replied new
    pub served_too : Serves others second also after
    pub lines : lines_in (edits_in replied) ≡ lines_in (edits_in also)
    pub out : AreCarriedOut (edits_in replied)
    pub out_too : AreCarriedOut (edits_in also)
