pub mod SortedTexts
