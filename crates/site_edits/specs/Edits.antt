-- What the commands that change a site do to its rows.
use Rattle.std.specs.Prelude.{ℕ, ◌+◌, Bool, true, not, ◌&&◌, nat_lt, List, Option, is_some, if◌then◌else◌}
use Rattle.std.specs.FinMap.{insert}
use Rattle.std.specs.Option.{option_map_or}
use Rattle.callback_store.specs.Shape.{Shape, load_of}
use Rattle.site_records.specs.Dates.{is_post_date}
use Rattle.site_records.specs.Ids.{max_id}
use Rattle.site_records.specs.declared.post.PostKind.{PostKind}
use Rattle.site_records.specs.declared.post.PostStatus.{PostStatus}
use Rattle.plain_data.specs.Texts.{Text}
use Rattle.post_tables.specs.Rows.{Rows, PostEdit, with_new, has_post, edited_posts, without_post, set_name}
use Rattle.site_values.specs.Limits.{max_title, max_content, max_value, fits}
use Rattle.site_replies.specs.declared.reply.Refusal.TheVariants.{NoSuchPost, BadDate, UnknownPlugin, TooLarge, IdsUsedUp}
use Rattle.site_replies.specs.Reply.{ReplyData, done, done_id, refused}

-- if an edit leaves a text out, nothing of it can be wrong
abbrev pub if_given : (Text → Bool) → Option Text → Bool
if_given test text = option_map_or test text true

-- `put`: one more post, under the ID after the largest one ever given (wp_insert_post)
unfoldable pub put : Rows → PostKind → PostStatus → (title content date : Text) → Rows × ReplyData
put rows kind status title content date =
    if not (fits max_title title && fits max_content content) then (rows, refused TooLarge)
    else (if not (is_post_date date) then (rows, refused BadDate)
    else (if nat_lt rows.largest max_id
    then (
      with_new (record { id = rows.largest + 1; kind = kind; status = status; title = title; content = content; date = date }) rows,
      done_id
          (rows.largest + 1),
    )
    else (rows, refused IdsUsedUp)))

-- the post with the ID, edited, if there is one
unfoldable pub edited : Rows → ℕ → PostEdit → Rows × ReplyData
edited rows id given =
    if has_post id rows.posts
    then (record rows { posts = edited_posts id given rows.posts }, done)
    else (rows, refused NoSuchPost)

-- `edit`: what is given replaces what the post had (wp_update_post)
unfoldable pub edit : Rows → ℕ → PostEdit → Rows × ReplyData
edit rows id given =
    if not (if_given (fits max_title) given.title && if_given (fits max_content) given.content) then (rows, refused TooLarge)
    else (if not (if_given is_post_date given.date) then (rows, refused BadDate) else edited rows id given)

-- `delete`: the post is gone, and its ID is never given again (wp_delete_post)
unfoldable pub delete : Rows → ℕ → Rows × ReplyData
delete rows id =
    if has_post id rows.posts
    then (record rows { posts = without_post id rows.posts }, done)
    else (rows, refused NoSuchPost)

-- `option`: the option has this value from now on (update_option)
unfoldable pub set_option : Rows → (name value : Text) → Rows × ReplyData
set_option rows name value =
    if fits max_value value
    then (record rows { options = insert rows.options name value }, done)
    else (rows, refused TooLarge)

-- `activate` and `deactivate`: a plugin of the bundle becomes active, or inactive (activate_plugin, deactivate_plugins)
unfoldable pub set_active : List Shape → Rows → Text → Bool → Rows × ReplyData
set_active plugins rows name active =
    if is_some (load_of plugins name)
    then (record rows { active = set_name name active rows.active }, done)
    else (rows, refused UnknownPlugin)
